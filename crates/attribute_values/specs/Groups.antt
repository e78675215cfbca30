-- A name token group, read again for one value: token after token, whether the value is one of them; and which declared value a number
-- stands for.
use Prim.Native.Nat.{ℕ, zero, suc, ◌+◌, ◌-◌, ◌<◌}
use Rattle.std.specs.Prelude.{◌≡◌, Bool, true, false, ◌&&◌, ◌||◌, length, eqb, leb, ltb}
use Rattle.std.proofs.Math.Path.{refl, sym, ap, subst}
use Rattle.std.proofs.Common.{◌∙◌, true≢false, arith, eqb-true, ltb-true, ltb-false}
use Rattle.std.proofs.Math.Bool.{or-false, or_assoc, or-true}
use mathlib.Core.List.{List, [], ◌∷◌, ◌++◌}
use Rattle.basic_laws.specs.Truth.{and_left}
use Rattle.rules.specs.Bytes.{byte_at, name_byte, name_end, separators_end, GRPCNT, DSO, GRPC, PERO}
use Rattle.rules.specs.Reading.{Reading, got, refused}
use Rattle.rules.specs.Attributes.{Part, DeclaredValue, cdata, number, name, is_one_of, fits}
use Rattle.rules.specs.TypeFile.{is_token, group_token, TokensEnd, is_token_connector, group_tokens, token_group}
use Rattle.text.specs.Words.{test_in, spanned, before_all, separators_end_from}
use Rattle.rules_laws.specs.Holds.{stops, reads, Gives, got_so, so, on, either}
use Rattle.attribute_values.specs.Parts.{is_same, GroupAt, DeclaredAs, as_cdata, as_number, as_name, as_tokens}

refused≢got : {A : Type 0} {n k : ℕ} {a : A} → ◌≡◌ {A = Reading A} (refused n k) (got a) → ⊥
refused≢got e = true≢false (ap is_refused e)
  where
    is_refused : {A : Type 0} → Reading A → Bool
    is_refused (refused n k) = true
    is_refused (got a) = false

whatever : {A : Type 0} (r : Reading A) → Gives (λ (a : A). r ≡ got a) r
whatever (refused n k) = stops tt
whatever (got a) = reads refl

-- A name that has a byte begins in the text.
name_in : (s : List ℕ) (i : ℕ) → i < name_end s i → i < length s
unfolding name_end
name_in s i h = by_size (ltb i (length s)) refl
  where
    by_size : (b : Bool) → ltb i (length s) ≡ b → i < length s
    by_size true e = ltb-true i (length s) e
    by_size false e = absurd (omega (arith, before_all _ _ (spanned name_byte) s i (name_end s i) (ltb-false i (length s) e) refl, h))

module _ (long : ℕ) (s : List ℕ) (seen : List Part) where
  -- The token at i.
  abbrev token_at : ℕ → Part
  token_at i = record { at = i; size = name_end s i - i }

  token_known : (ps : List Part) (i : ℕ) → Gives (λ (p : Part). (i < name_end s i) × (p ≡ token_at i)) (group_token long s seen ps i)
  unfolding group_token
  token_known ps i =
      let e = name_end s i in
      either (ltb i e)
      (λ x. either (ltb long (e - i)) (λ y. stops tt)
      (λ y. either (leb GRPCNT (length ps)) (λ z. stops tt)
      (λ z. either (is_token s (seen ++ ps) i (e - i)) (λ u. stops tt) (λ u. reads (ltb-true i e x, refl)))))
      (λ x. either (eqb (byte_at s i) DSO || eqb (byte_at s i) PERO) (λ y. stops tt) (λ y. stops tt))

  -- What one turn gives: the group ends behind the token at i, or goes on behind a connector.
  data Step (left : ℕ) (ps : List Part) (i : ℕ) (t : TokensEnd) : Type 0 where
    closes : i < name_end s i → is_token_connector (byte_at s (separators_end s (name_end s i))) ≡ false → t.tokens ≡ ps ++ token_at i ∷ [] → Step left ps i t
    joins : i < name_end s i → is_token_connector (byte_at s (separators_end s (name_end s i))) ≡ true
        → group_tokens long s seen left (byte_at s (separators_end s (name_end s i))) (ps ++ token_at i ∷ []) (separators_end s (name_end s i) + 1) ≡ got t → Step left ps i t

  -- The rest of a turn, behind the token p, which ends at n.
  abbrev turn : (left connector : ℕ) (ps : List Part) (p : Part) (n : ℕ) → Reading TokensEnd
  turn left connector ps p n =
      let j = separators_end s n in
      let b = byte_at s j in
      elim (eqb b GRPC) [
        | true ↦ got (record { tokens = ps ++ p ∷ []; at = j + 1 })
        | false ↦ elim (eqb b PERO) [
          | true ↦ refused 5 j
          | false ↦ elim (is_token_connector b && (eqb connector 0 || eqb connector b)) [
            | true ↦ group_tokens long s seen left b (ps ++ p ∷ []) (j + 1)
            | false ↦ refused 4 j
          ]
        ]
      ]

  turn_known : (left connector : ℕ) (ps : List Part) (i : ℕ) → i < name_end s i → Gives (Step left ps i) (turn left connector ps (token_at i) (name_end s i))
  turn_known left connector ps i h =
      let j = separators_end s (name_end s i) in
      let b = byte_at s j in
      either (eqb b GRPC) (λ x. reads (closes h (ap is_token_connector (eqb-true b GRPC x)) refl))
      (λ x. either (eqb b PERO) (λ y. stops tt)
      (λ y. either (is_token_connector b && (eqb connector 0 || eqb connector b))
      (λ z.
      so (whatever (group_tokens long s seen left b (ps ++ token_at i ∷ []) (j + 1))) (λ n k e. tt)
      (λ t w. joins h (and_left (is_token_connector b) (eqb connector 0 || eqb connector b) z) w))
      (λ z. stops tt)))

  step_known : (left connector : ℕ) (ps : List Part) (at : ℕ) → Gives (Step left ps (separators_end s at)) (group_tokens long s seen (suc left) connector ps at)
  unfolding group_tokens
  step_known left connector ps at =
      let i = separators_end s at in
      on (token_known ps i) λ p r.
      let e : p.at + p.size ≡ name_end s i = omega (arith, ap Part.at r.1, ap Part.size r.1, r.0) in
      subst (λ (q : Part). Gives (Step left ps i) (turn left connector ps q (p.at + p.size))) (sym r.1)
      (subst (λ (n : ℕ). Gives (Step left ps i) (turn left connector ps (token_at i) n)) (sym e) (turn_known left connector ps i r.0))

  module _ (v : List ℕ) where
    -- What is one of the first tokens is one of all.
    one_more : (ps : List Part) (p : Part) → is_one_of s (ps ++ p ∷ []) v ≡ (is_one_of s ps v || is_same s p v)
    unfolding is_one_of
    one_more [] p = or-false (is_same s p v)
    one_more (q ∷ ps) p = ap (λ b. is_same s q v || b) (one_more ps p) ∙ sym (or_assoc (is_same s q v) (is_one_of s ps v) (is_same s p v))

    kept : (left connector : ℕ) (ps : List Part) (at : ℕ) (t : TokensEnd) → group_tokens long s seen left connector ps at ≡ got t → is_one_of s ps v ≡ true → is_one_of s t.tokens v ≡ true
    unfolding group_tokens
    kept zero connector ps at t e h = absurd (refused≢got e)
    kept (suc left) connector ps at t e h = by_step (got_so (step_known left connector ps at) e) (kept left)
      where
        i : ℕ
        i = separators_end s at

        further : is_one_of s (ps ++ token_at i ∷ []) v ≡ true
        further = one_more ps (token_at i) ∙ ap (λ b. b || is_same s (token_at i) v) h

        by_step : Step left ps i t
            → ((connector : ℕ) (ps : List Part) (at : ℕ) (t : TokensEnd) → group_tokens long s seen left connector ps at ≡ got t → is_one_of s ps v ≡ true → is_one_of s t.tokens v ≡ true)
            → is_one_of s t.tokens v ≡ true
        by_step (closes g n q) ih = ap (λ ts. is_one_of s ts v) q ∙ further
        by_step (joins g n q) ih = ih _ _ _ t q further

-- What is left to read of a group with the tokens ps, from the token at i on: the value is none of those before.
pub record Rests (s v : List ℕ) (ps : List Part) (i : ℕ) : Type 0 where
  long : ℕ
  seen : List Part
  left : ℕ
  connector : ℕ
  before : List Part
  from : ℕ
  end : TokensEnd
  read : group_tokens long s seen (suc left) connector before from ≡ got end
  tokens : end.tokens ≡ ps
  begins : i ≡ separators_end s from
  others : is_one_of s before v ≡ false

module _ (s v : List ℕ) where
  pub rests_first : (long : ℕ) (at : ℕ) (ps : List Part) → GroupAt long s at ps → Rests s v ps (separators_end s (at + 1))
  unfolding token_group is_one_of
  rests_first long at ps g = record { long = long; seen = g.seen; left = GRPCNT; connector = 0; before = []; from = at + 1; end = g.end; read = g.read; tokens = g.tokens; begins = refl; others = refl }

  module _ (ps : List Part) (i : ℕ) (r : Rests s v ps i) where
    step : Step r.long s r.seen r.left r.before i r.end
    step = subst (λ (n : ℕ). Step r.long s r.seen r.left r.before n r.end) (sym r.begins) (got_so (step_known r.long s r.seen r.left r.connector r.before r.from) r.read)

    pub rests_in : i < length s
    rests_in = by_step step
      where
        by_step : Step r.long s r.seen r.left r.before i r.end → i < length s
        by_step (closes h n q) = name_in s i h
        by_step (joins h n q) = name_in s i h

    -- The token at i is the value, or not; then the group ends, or goes on.
    pub rests_found : is_same s (record { at = i; size = name_end s i - i }) v ≡ true → is_one_of s ps v ≡ true
    rests_found e = ap (λ ts. is_one_of s ts v) (sym r.tokens) ∙ by_step step
      where
        whole : is_one_of s (r.before ++ record { at = i; size = name_end s i - i } ∷ []) v ≡ true
        whole = one_more r.long s r.seen v r.before _ ∙ ap (λ b. is_one_of s r.before v || b) e ∙ or-true (is_one_of s r.before v)

        by_step : Step r.long s r.seen r.left r.before i r.end → is_one_of s r.end.tokens v ≡ true
        by_step (closes h n q) = ap (λ ts. is_one_of s ts v) q ∙ whole
        by_step (joins h n q) = kept r.long s r.seen v _ _ _ _ r.end q whole

    module _ (e : is_same s (record { at = i; size = name_end s i - i }) v ≡ false) where
      none : is_one_of s (r.before ++ record { at = i; size = name_end s i - i } ∷ []) v ≡ false
      none = one_more r.long s r.seen v r.before _ ∙ ap (λ b. b || is_same s (record { at = i; size = name_end s i - i }) v) r.others ∙ e

      pub rests_end : is_token_connector (byte_at s (separators_end s (name_end s i))) ≡ false → is_one_of s ps v ≡ false
      rests_end n = by_step step
        where
          by_step : Step r.long s r.seen r.left r.before i r.end → is_one_of s ps v ≡ false
          by_step (closes h m q) = ap (λ ts. is_one_of s ts v) (sym r.tokens ∙ q) ∙ none
          by_step (joins h m q) = absurd (true≢false (sym m ∙ n))

      pub rests_turn : is_token_connector (byte_at s (separators_end s (name_end s i))) ≡ true → Rests s v ps (separators_end s (separators_end s (name_end s i) + 1))
      unfolding group_tokens
      rests_turn n = by_step r.left step
        where
          by_step : (left : ℕ) → Step r.long s r.seen left r.before i r.end → Rests s v ps (separators_end s (separators_end s (name_end s i) + 1))
          by_step left (closes h m q) = absurd (true≢false (sym n ∙ m))
          by_step zero (joins h m q) = absurd (refused≢got q)
          by_step (suc left) (joins h m q) =
              record { long = r.long; seen = r.seen; left = left; connector = byte_at s (separators_end s (name_end s i)); before = r.before ++ record { at = i; size = name_end s i - i } ∷ []; from = separators_end s (name_end s i) + 1; end = r.end; read = q; tokens = r.tokens; begins = refl; others = none }

-- The same where the code has found the end of the token, the byte behind it, and where the next begins.
module _ (s v : List ℕ) (ps : List Part) (i : ℕ) (r : Rests s v ps i) (e : ℕ) (ends : e ≡ name_end s i) {b : Bool} (same : b ≡ is_same s (record { at = i; size = e - i }) v) where
  here : b ≡ is_same s (record { at = i; size = name_end s i - i }) v
  here = same ∙ ap (λ n. is_same s (record { at = i; size = n - i }) v) ends

  pub group_has : b ≡ true → is_one_of s ps v ≡ true
  group_has h = rests_found s v ps i r (sym here ∙ h)

  module _ (other : b ≡ false) (j : ℕ) (behind : j ≡ separators_end s e) (x : ℕ) (byte : x ≡ byte_at s j) {k : Bool} (connects : k ≡ is_token_connector x) where
    joint : k ≡ is_token_connector (byte_at s (separators_end s (name_end s i)))
    joint = connects ∙ ap is_token_connector (byte ∙ ap (byte_at s) (behind ∙ ap (separators_end s) ends))

    pub group_lacks : k ≡ false → is_one_of s ps v ≡ false
    group_lacks h = rests_end s v ps i r (sym here ∙ other) (sym joint ∙ h)

    pub group_on : k ≡ true → (n : ℕ) → n ≡ separators_end s (j + 1) → Rests s v ps n
    group_on h n q =
        let at : n ≡ separators_end s (separators_end s (name_end s i) + 1) = q ∙ ap (λ m. separators_end s (m + 1)) (behind ∙ ap (separators_end s) ends) in
        subst (Rests s v ps) (sym at) (rests_turn s v ps i r (sym here ∙ other) (sym joint ∙ h))

-- A group stands in the text.
pub group_inside : (long : ℕ) (s : List ℕ) (at : ℕ) (ps : List Part) → GroupAt long s at ps → at < length s
group_inside long s at ps g = omega (arith, rests_in s [] ps _ (rests_first s [] long at ps g), separators_end_from s (at + 1))

-- A connector stands in the text.
pub connector_in : (s : List ℕ) (j x : ℕ) → x ≡ byte_at s j → {k : Bool} → k ≡ is_token_connector x → k ≡ true → j < length s
connector_in s j x e q h = test_in is_token_connector refl s j (ap is_token_connector (sym e) ∙ sym q ∙ h)

-- Which declared value a number stands for.
module _ (long : ℕ) (s : List ℕ) where
  pub declared_cdata : {x : ℕ} {y : DeclaredValue} → DeclaredAs long s x y → x ≡ 0 → y ≡ cdata
  declared_cdata as_cdata e = refl
  declared_cdata as_number e = absurd (omega (arith, e))
  declared_cdata as_name e = absurd (omega (arith, e))
  declared_cdata (as_tokens at ps h g) e = absurd (omega (arith, e, h))

  pub declared_number : {x : ℕ} {y : DeclaredValue} → DeclaredAs long s x y → x ≡ 1 → y ≡ number
  declared_number as_cdata e = absurd (omega (arith, e))
  declared_number as_number e = refl
  declared_number as_name e = absurd (omega (arith, e))
  declared_number (as_tokens at ps h g) e = absurd (omega (arith, e, h))

  pub declared_name : {x : ℕ} {y : DeclaredValue} → DeclaredAs long s x y → x ≡ 2 → y ≡ name
  declared_name as_cdata e = absurd (omega (arith, e))
  declared_name as_number e = absurd (omega (arith, e))
  declared_name as_name e = refl
  declared_name (as_tokens at ps h g) e = absurd (omega (arith, e, h))

  pub declared_tokens : {x : ℕ} {y : DeclaredValue} (v : List ℕ) {r : Bool} → DeclaredAs long s x y → (x ≡ 0 → ⊥) → (x ≡ 1 → ⊥) → (x ≡ 2 → ⊥)
      → ((d : ℕ) (ps : List Part) → GroupAt d s x ps → r ≡ is_one_of s ps v) → r ≡ fits long s y v
  unfolding fits
  declared_tokens v as_cdata a b d f = absurd (a refl)
  declared_tokens v as_number a b d f = absurd (b refl)
  declared_tokens v as_name a b d f = absurd (d refl)
  declared_tokens v (as_tokens at ps h g) a b d f = f long ps g
