-- Laws of the tokens seen, and of a group read token after token.
use Rattle.std.specs.Prelude.{ℕ, zero, suc, ◌+◌, ◌-◌, ◌*◌, ◌≤◌, ◌<◌, ◌≡◌, Bool, true, false, ◌&&◌, ◌||◌, List, [], ◌∷◌, ◌++◌, length, get_or, set, eqb}
use Rattle.std.proofs.Math.Path.{refl, subst}
use Rattle.std.proofs.Common.{sym, ◌∙◌, ap, append-nil, append_assoc, add-one, arith, length-append, length-set, get_or-set_same, get_or-set_other}
use Rattle.std.proofs.Math.Bool.{or-false, or_assoc, or-true}
use Rattle.std.proofs.Math.Decide.{ℕ_discrete}
use borrow.Author.Tests.{eq-eqb, ne_eqb, lt-ltb, le-ltb, le-leb, lt-leb}
use Rattle.rules.specs.Bytes.{byte_at, name_end, separators_end, same_text, GRPCNT, DSO, GRPC, PERO}
use Rattle.rules.specs.Reading.{Reading, refused, got, and_then}
use Rattle.rules.specs.Attributes.{Part}
use Rattle.rules.specs.TypeFile.{same_name, is_token, group_token, TokensEnd, is_token_connector, group_tokens, token_group}
use Rattle.text.specs.Words.{test_in}
use Rattle.name_tokens.specs.Tokens.{part_in, parts_of, ReadAs}

-- A table holds the tokens that were seen.

parts_of_ext : (seen other : List ℕ) (n : ℕ) → ((j : ℕ) → j < 2 * n → get_or seen j 0 ≡ get_or other j 0) → parts_of seen n ≡ parts_of other n
unfolding parts_of
parts_of_ext seen other zero e = refl
parts_of_ext seen other (suc n) e = rw (parts_of_ext seen other n (λ j h. e j (omega arith)), e (2 * n) (omega arith), e (2 * n + 1) (omega arith))

-- The next token is written down behind them.
pub parts_of_put : (seen : List ℕ) (n at size : ℕ) → 2 * n + 1 < length seen → parts_of (set (set seen (2 * n) at) (2 * n + 1) size) (n + 1) ≡ parts_of seen n ++ record { at = at; size = size } ∷ []
unfolding parts_of
parts_of_put seen n at size h =
    let first : List ℕ = set seen (2 * n) at in
    let l : 2 * n + 1 < length first = omega (arith, length-set seen (2 * n) at) in
    let kept : parts_of (set first (2 * n + 1) size) n ≡ parts_of seen n =
    parts_of_ext (set first (2 * n + 1) size) seen n
    (λ j k. get_or-set_other first (2 * n + 1) j size 0 (omega arith) ∙ get_or-set_other seen (2 * n) j at 0 (omega arith)) in
    let stands : get_or (set first (2 * n + 1) size) (2 * n) 0 ≡ at =
    get_or-set_other first (2 * n + 1) (2 * n) size 0 (omega arith) ∙ get_or-set_same seen (2 * n) at 0 (omega arith) in
    let long : get_or (set first (2 * n + 1) size) (2 * n + 1) 0 ≡ size = get_or-set_same first (2 * n + 1) size 0 l in
    rw (add-one n, parts_of, kept, stands, long)

-- A token was seen or not.

is_token_snoc : (s : List ℕ) (ps : List Part) (p : Part) (at size : ℕ) → is_token s (ps ++ p ∷ []) at size ≡ (is_token s ps at size || same_name s p.at p.size at size)
unfolding is_token
is_token_snoc s [] p at size = or-false (same_name s p.at p.size at size)
is_token_snoc s (q ∷ ps) p at size = ap (λ b. same_name s q.at q.size at size || b) (is_token_snoc s ps p at size) ∙ sym (or_assoc (same_name s q.at q.size at size) (is_token s ps at size) (same_name s p.at p.size at size))

module _ (s seen : List ℕ) (at size : ℕ) where
  next : (k : ℕ) → is_token s (parts_of seen (suc k)) at size ≡ (is_token s (parts_of seen k) at size || same_name s (part_in seen k).at (part_in seen k).size at size)
  unfolding parts_of
  next k = is_token_snoc s (parts_of seen k) (part_in seen k) at size

  pub seen_none : is_token s (parts_of seen 0) at size ≡ false
  unfolding parts_of is_token
  seen_none = refl

  pub seen_turn : (k : ℕ) {b : Bool} → is_token s (parts_of seen k) at size ≡ false → b ≡ same_name s (part_in seen k).at (part_in seen k).size at size → b ≡ false → is_token s (parts_of seen (k + 1)) at size ≡ false
  seen_turn k e h f = rw (add-one k) (next k ∙ ap (λ b. b || same_name s (part_in seen k).at (part_in seen k).size at size) e ∙ sym h ∙ f)

  kept : (n k : ℕ) → k ≤ n → is_token s (parts_of seen k) at size ≡ true → is_token s (parts_of seen n) at size ≡ true
  kept zero k h e = let z : k ≡ 0 = omega arith in rw z at e
  kept (suc n) k h e = by_last (ℕ_discrete k (suc n)) (λ l. kept n k l e)
    where
      by_last : Dec (k ≡ suc n) → (k ≤ n → is_token s (parts_of seen n) at size ≡ true) → is_token s (parts_of seen (suc n)) at size ≡ true
      by_last (yes q) ih = rw q at e
      by_last (no ne) ih = next n ∙ ap (λ b. b || same_name s (part_in seen n).at (part_in seen n).size at size) (ih (omega arith))

  pub seen_found : (k n : ℕ) {b : Bool} → k < n → b ≡ same_name s (part_in seen k).at (part_in seen k).size at size → b ≡ true → is_token s (parts_of seen n) at size ≡ true
  seen_found k n h e f =
      kept n (suc k) h (next k ∙ ap (λ b. is_token s (parts_of seen k) at size || b) (sym e ∙ f) ∙ or-true (is_token s (parts_of seen k) at size))

-- A token of the table and another, by what is read of it.
module _ (s seen : List ℕ) (k at size m : ℕ) (sized : m ≡ get_or seen (2 * k + 1) 0) where
  pub other_size : (m ≡ size → ⊥) → false ≡ same_name s (part_in seen k).at (part_in seen k).size at size
  other_size ne = rw (same_name, ← sized, ne_eqb m size ne)

  pub same_size : m ≡ size → (a : ℕ) → a ≡ get_or seen (2 * k) 0 → {r : Bool} → r ≡ same_text s a s at size → r ≡ same_name s (part_in seen k).at (part_in seen k).size at size
  same_size e a h q = rw (same_name, ← sized, eq-eqb m size e, ← h) q

-- A token is read by the tests that the code makes.

module _ (long : ℕ) (s : List ℕ) (ts ps : List Part) (i e : ℕ) (ends : e ≡ name_end s i) where
  module _ (none : e ≡ i) {b : Bool} (test : b ≡ (eqb (byte_at s i) DSO || eqb (byte_at s i) PERO)) where
    pub token_left_out : b ≡ true → group_token long s ts ps i ≡ refused 5 i
    unfolding group_token
    token_left_out h = rw (group_token, ← ends, le-ltb i e (omega arith), ← test, h)

    pub token_none : b ≡ false → group_token long s ts ps i ≡ refused 4 i
    unfolding group_token
    token_none h = rw (group_token, ← ends, le-ltb i e (omega arith), ← test, h)

  module _ (some : i < e) where
    pub token_long : long < e - i → group_token long s ts ps i ≡ refused 3 i
    unfolding group_token
    token_long l = rw (group_token, ← ends, lt-ltb i e some, ← ends, lt-ltb _ _ l)

    module _ (short : e - i ≤ long) where
      pub token_full : GRPCNT ≤ length ps → group_token long s ts ps i ≡ refused 6 i
      unfolding group_token
      token_full f = rw (group_token, ← ends, lt-ltb i e some, ← ends, le-ltb _ _ short, le-leb _ _ f)

      module _ (room : length ps < GRPCNT) {b : Bool} (seen : b ≡ is_token s (ts ++ ps) i (e - i)) where
        pub token_twice : b ≡ true → group_token long s ts ps i ≡ refused 20 i
        unfolding group_token
        token_twice h = rw (group_token, ← ends, lt-ltb i e some, ← ends, le-ltb _ _ short, lt-leb _ _ room, ← ends, ← seen, h)

        pub token_got : b ≡ false → group_token long s ts ps i ≡ got (record { at = i; size = e - i })
        unfolding group_token
        token_got h = rw (group_token, ← ends, lt-ltb i e some, ← ends, le-ltb _ _ short, lt-leb _ _ room, ← ends, ← seen, h, ends)

-- A group, token after token. What is left to read, where the table holds the tokens of the list and `connector` joins those of the group.
pub record Goes (long : ℕ) (s : List ℕ) (ts : List Part) (x : Reading TokensEnd) (seen : List ℕ) (n m connector i : ℕ) : Type 0 where
  pub ps : List Part
  from : ℕ
  begins : i ≡ separators_end s from
  pub counted : m ≡ n + length ps
  pub few : length ps ≤ GRPCNT
  pub parts : parts_of seen m ≡ ts ++ ps
  due : group_tokens long s ts (suc (GRPCNT - length ps)) connector ps from ≡ x

pub goes_first : (long : ℕ) (s : List ℕ) (seen : List ℕ) (n at i : ℕ) → i ≡ separators_end s (at + 1) → Goes long s (parts_of seen n) (token_group long s (parts_of seen n) at) seen n n 0 i
unfolding token_group
goes_first long s seen n at i e = record { ps = []; from = at + 1; begins = e; counted = omega arith; few = omega arith; parts = sym (append-nil (parts_of seen n)); due = refl }

module _ (long : ℕ) (s : List ℕ) (ts : List Part) (x : Reading TokensEnd) (seen : List ℕ) (n m connector i : ℕ) (g : Goes long s ts x seen n m connector i) where
  -- The rest of a turn: behind the token p stands the byte b at j.
  abbrev turn : Part → (j b : ℕ) → Reading TokensEnd
  turn p j b =
      elim (eqb b GRPC) [
        | true ↦ got (record { tokens = g.ps ++ p ∷ []; at = j + 1 })
        | false ↦ elim (eqb b PERO) [
          | true ↦ refused 5 j
          | false ↦ elim (is_token_connector b && (eqb connector 0 || eqb connector b)) [
            | true ↦ group_tokens long s ts (GRPCNT - length g.ps) b (g.ps ++ p ∷ []) (j + 1)
            | false ↦ refused 4 j
          ]
        ]
      ]

  abbrev behind_token : Part → Reading TokensEnd
  behind_token p = let j = separators_end s (p.at + p.size) in turn p j (byte_at s j)

  step : and_then (group_token long s ts g.ps i) behind_token ≡ x
  unfolding group_tokens
  step = subst (λ k. and_then (group_token long s ts g.ps k) behind_token ≡ x) (sym g.begins) g.due

  pub goes_refused : (a b : ℕ) → group_token long s ts g.ps i ≡ refused a b → x ≡ refused a b
  goes_refused a b e = sym step ∙ ap (λ r. and_then r behind_token) e

  -- Behind the token, which ends at e, stands the byte b at j.
  module _ (e : ℕ) (some : i < e) (room : length g.ps < GRPCNT) (read : group_token long s ts g.ps i ≡ got (record { at = i; size = e - i })) (j : ℕ) (behind : j ≡ separators_end s e) (b : ℕ) (byte : b ≡ byte_at s j) where
    abbrev token : Part
    token = record { at = i; size = e - i }

    went : turn token j b ≡ x
    went =
        let z : i + (e - i) ≡ e = omega arith in
        let at : j ≡ separators_end s (i + (e - i)) = behind ∙ ap (separators_end s) (sym z) in
        let there : b ≡ byte_at s (separators_end s (i + (e - i))) = byte ∙ ap (byte_at s) at in
        ap (λ k. turn token k b) at ∙ ap (turn token (separators_end s (i + (e - i)))) there ∙ sym (ap (λ r. and_then r behind_token) read) ∙ step

    module _ (seen' : List ℕ) (m' : ℕ) (next : m' ≡ m + 1) (put : parts_of seen' m' ≡ parts_of seen m ++ token ∷ []) where
      longer : parts_of seen' m' ≡ ts ++ (g.ps ++ token ∷ [])
      longer = put ∙ ap (λ l. l ++ token ∷ []) g.parts ∙ append_assoc ts g.ps (token ∷ [])

      pub goes_closed : b ≡ GRPC → ReadAs seen' n m' (j + 1) ts x
      goes_closed q =
          record {
            end = record { tokens = g.ps ++ token ∷ []; at = j + 1 };
            read = sym went ∙ closed;
            ends = refl;
            parts = longer;
            counted = omega (arith, length-append g.ps (token ∷ []), g.counted);
            few = omega (arith, length-append g.ps (token ∷ []));
          }
        where
          closed : turn token j b ≡ got (record { tokens = g.ps ++ token ∷ []; at = j + 1 })
          closed = rw (turn, eq-eqb b GRPC q)

      module _ (goes : b ≡ GRPC → ⊥) (plain : b ≡ PERO → ⊥) {k : Bool} (joins : k ≡ (is_token_connector b && (eqb connector 0 || eqb connector b))) where
        pub goes_on : k ≡ true → (l : ℕ) → l ≡ separators_end s (j + 1) → Goes long s ts x seen' n m' b l
        goes_on h l q =
            let z : GRPCNT - length g.ps ≡ suc (GRPCNT - length (g.ps ++ token ∷ [])) = omega (arith, length-append g.ps (token ∷ [])) in
            record {
              ps = g.ps ++ token ∷ [];
              from = j + 1;
              begins = q;
              counted = omega (arith, length-append g.ps (token ∷ []), g.counted);
              few = omega (arith, length-append g.ps (token ∷ []));
              parts = longer;
              due = subst (λ r. group_tokens long s ts r b (g.ps ++ token ∷ []) (j + 1) ≡ x) z (sym joined ∙ went);
            }
          where
            joined : turn token j b ≡ group_tokens long s ts (GRPCNT - length g.ps) b (g.ps ++ token ∷ []) (j + 1)
            joined = rw (turn, ne_eqb b GRPC goes, ne_eqb b PERO plain, ← joins, h)

    pub goes_percent : (b ≡ GRPC → ⊥) → b ≡ PERO → x ≡ refused 5 j
    goes_percent ne q = sym went ∙ stopped
      where
        stopped : turn token j b ≡ refused 5 j
        stopped = rw (turn, ne_eqb b GRPC ne, eq-eqb b PERO q)

    pub goes_unfit : (b ≡ GRPC → ⊥) → (b ≡ PERO → ⊥) → {k : Bool} → k ≡ (is_token_connector b && (eqb connector 0 || eqb connector b)) → k ≡ false → x ≡ refused 4 j
    goes_unfit goes plain {k} joins h = sym went ∙ stopped
      where
        stopped : turn token j b ≡ refused 4 j
        stopped = rw (turn, ne_eqb b GRPC goes, ne_eqb b PERO plain, ← joins, h)

-- What joins tokens stands in the text.
pub joins_in : (s : List ℕ) (j b connector : ℕ) {k : Bool} → b ≡ byte_at s j → k ≡ (is_token_connector b && (eqb connector 0 || eqb connector b)) → k ≡ true → j < length s
joins_in s j b connector e q h = test_in (λ v. is_token_connector v && (eqb connector 0 || eqb connector v)) refl s j (ap (λ v. is_token_connector v && (eqb connector 0 || eqb connector v)) (sym e) ∙ sym q ∙ h)
