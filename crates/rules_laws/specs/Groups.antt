-- Model groups and content, walked once: each law of a model that is read is an instance of `Builds`, and cites the walk.
use Prim.Native.Nat.{ℕ, zero, suc, ◌+◌, ◌-◌, ◌≤◌, ◌<◌}
use Rattle.std.proofs.Math.Path.{◌≡◌, refl}
use Rattle.std.proofs.Common.{subst, arith, eqb-true, eq-eqb, ltb-false, leb-false}
use Rattle.std.specs.Prelude.{Bool, true, false, ◌&&◌, ◌||◌, leb, ltb}
use mathlib.Core.List.{List, [], ◌∷◌, ◌++◌}
use Rattle.std.proofs.Math.ListN.{length}
use Rattle.std.proofs.Math.Dec.{eqb}
use Rattle.rules.specs.Bytes.{byte_at, letter, name_end, separators_end, GRPCNT, GRPLVL, GRPGTCNT, AND, DSO, GRPC, GRPO, MINUS, OPT, OR, PERO, PLUS, REP, RNI, SEQ}
use Rattle.rules.specs.Reading.{Reading, got, and_then}
use Rattle.rules.specs.Walk.{Group, place, seq, alt, opt, plus, and, Members, one, also, star}
use Rattle.rules.specs.TypeFile.{is_word, is_cut, PCDATA, EMPTY, ANY, CDATA, RCDATA, Place, Tokens, occurrence, new_place, is_connector, members_of, join, earlier, join_tokens, name_token, data_token, token, Further, closed, joined, further, members, group, Content, empty, model, unfit, ContentEnd, content_word, content_model, content}
use Rattle.basic_laws.specs.Truth.{and_left, not_both, bool_cases, or_none}
use Rattle.and_laws.specs.Sets.{Plain}
use Rattle.and_laws.specs.Numbers.{Guarded}
use Rattle.text.specs.Words.{test_in, letter_in, name_end_from, name_end_le, name_end_more, separators_end_from, separators_end_le}
use Rattle.rules_laws.specs.Holds.{Holds, stops, reads, Gives, got_so, each, so, on, on_same, either, whichever}
use Rattle.rules_laws.specs.In.{Fits, fits_none, fits_group, fits_place, ContentIn}

-- A refusal of a type file is one of 3 to 8 and stands in it.
abbrev pub InType : List ℕ → (number position : ℕ) → Type 0
InType s n k = (3 ≤ n) × (n ≤ 8) × (k ≤ length s)

-- The same of a refusal by what begins at `at`, if that stands in the input.
abbrev pub InFrom : List ℕ → (at : ℕ) → (number position : ℕ) → Type 0
InFrom s at n k = at ≤ length s → InType s n k

-- The tokens t, with another group and up to i, where the first "&" that is refused stands at n.
abbrev pub grouped : Group → (i n : ℕ) → Tokens → Tokens
grouped g i n t = record { group = g; at = i; places = t.places; tokens = t.tokens; and = t.and; repeated = n }

-- A name and a `#PCDATA` as content token.
abbrev pub name_place : List ℕ → ℕ → Place
name_place s at = record { at = at; size = name_end s at - at }

abbrev pub data_place : ℕ → Place
data_place at = record { at = at; size = 0 }

abbrev pub with_place : Group → ℕ → Place → List Place → ℕ → Tokens
with_place g i x ps n = record { group = g; at = i; places = ps ++ x ∷ []; tokens = n + 1; and = 0; repeated = 0 }

-- Each rule has its ways.

-- What an indicator makes of a group, and where the first "&" that is refused then stands.
pub data Indicated (t : Tokens) : Group → ℕ → Type 0 where
  optional : Indicated t (opt t.group) t.repeated
  repeated : Indicated t (plus t.group) t.and
  any : Indicated t (star t.group) t.and

pub occurrence_holds : (P : Tokens → Type 0) (s : List ℕ) (t : Tokens) → P t → ((g : Group) (n : ℕ) → Indicated t g n → t.at < length s → P (grouped g (t.at + 1) n t)) → P (occurrence s t)
unfolding occurrence
occurrence_holds P s t p f =
    let b = byte_at s t.at in
    whichever P (eqb b OPT) (λ x. f _ _ optional (test_in (λ v. eqb v OPT) refl s t.at x))
    (λ x. whichever P (eqb b PLUS) (λ y. f _ _ repeated (test_in (λ v. eqb v PLUS) refl s t.at y))
    (λ y. whichever P (eqb b REP) (λ z. f _ _ any (test_in (λ v. eqb v REP) refl s t.at z)) (λ z. p)))

module _ {R : (number position : ℕ) → Type 0} (s : List ℕ) where
  pub unfit_holds : {A : Type 0} {P : A → Type 0} (i : ℕ) → ((n k : ℕ) → InFrom s i n k → R n k) → Holds R P (unfit s i)
  unfit_holds i stop = either (eqb (byte_at s i) MINUS && leb (length s) (i + 1)) (λ y. stops (stop 4 (length s) (λ h. omega arith))) (λ y. stops (stop 4 i (λ h. omega arith)))

  module _ (long : ℕ) (inner : ℕ → List Place → ℕ → Reading Tokens) where
    -- A content token: a name, `#PCDATA`, or a group; none where the group or the model is full.
    pub token_holds : {P : Tokens → Type 0} (at : ℕ) (full : Bool) (ps : List Place) (n : ℕ)
        → ((m k : ℕ) → InFrom s at m k → R m k)
        → (full ≡ false → letter (byte_at s at) ≡ true → name_end s at - at ≤ long → P (occurrence s (with_place (new_place ps) (name_end s at) (name_place s at) ps n)))
        → (full ≡ false → at < length s → P (with_place (star (new_place ps)) (name_end s (at + 1)) (data_place at) ps n))
        → (full ≡ false → at < length s → Holds R P (and_then (inner at ps (n + 1)) (λ t. got (occurrence s t))))
        → Holds R P (token long inner s at full ps n)
    unfolding token name_token data_token
    token_holds at full ps n stop name pcdata nested =
        let b = byte_at s at in
        let e = name_end s (at + 1) in
        either (letter b)
        (λ x. either (ltb long (name_end s at - at)) (λ y. stops (stop 3 at (λ h. omega arith)))
        (λ y. either full (λ z. stops (stop 6 at (λ h. omega arith))) (λ z. reads (name z x (ltb-false _ _ y)))))
        (λ x. either (eqb b RNI)
        (λ y.
        let i = test_in (λ v. eqb v RNI) refl s at y in
        either (letter (byte_at s (at + 1)))
        (λ z. either (is_word s (at + 1) e PCDATA)
        (λ u. either full (λ v. stops (stop 6 at (λ h. omega arith))) (λ v. reads (pcdata v i)))
        (λ u. either (is_cut s (at + 1) e PCDATA) (λ v. stops (stop 4 (length s) (λ h. omega arith))) (λ v. stops (stop 4 at (λ h. omega arith)))))
        (λ z. stops (stop 4 (at + 1) (λ h. omega arith))))
        (λ y. either (eqb b GRPO)
        (λ z. either full (λ u. stops (stop 6 at (λ h. omega arith))) (λ u. nested u (test_in (λ v. eqb v GRPO) refl s at z)))
        (λ z. either (eqb b DSO || eqb b PERO) (λ u. stops (stop 5 at (λ h. omega arith))) (λ u. stops (stop 4 at (λ h. omega arith))))))

    -- What follows: the end of the group, or a connector and a further token.
    pub further_holds : {P : Further → Type 0} (k joint : ℕ) (t : Tokens)
        → ((m k : ℕ) → InFrom s t.at m k → R m k)
        → ((i : ℕ) → t.at ≤ i → i < length s → P (closed (grouped t.group (i + 1) t.repeated t)))
        → ((b i j : ℕ) → is_connector b ≡ true → b ≡ byte_at s i → t.at ≤ i → i < length s → t.at ≤ j → j ≤ length s
        → Holds R P (and_then (token long inner s j (leb GRPCNT k || leb GRPGTCNT t.tokens) t.places t.tokens) (λ u. got (joined b (join_tokens k b i t u)))))
        → Holds R P (further long inner s k joint t)
    unfolding further
    further_holds k joint t stop close next =
        let i = separators_end s t.at in
        let from = separators_end_from s t.at in
        let b = byte_at s i in
        let inside : t.at ≤ length s → i ≤ length s = separators_end_le s t.at in
        either (eqb b GRPC) (λ x. reads (close i from (test_in (λ v. eqb v GRPC) refl s i x)))
        (λ x. either (eqb b PERO) (λ y. stops (stop 5 i (λ h. omega (arith, inside h))))
        (λ y. either (is_connector b && (eqb joint 0 || eqb joint b))
        (λ z.
        let l = test_in (λ v. is_connector v && (eqb joint 0 || eqb joint v)) refl s i z in
        next b i (separators_end s (i + 1)) (and_left (is_connector b) _ z) refl from l (omega (arith, from, separators_end_from s (i + 1))) (separators_end_le s (i + 1) (omega arith)))
        (λ z. stops (stop 4 i (λ h. omega (arith, inside h))))))

-- There is room for each content token that is read.

module _ (long : ℕ) (inner : ℕ → List Place → ℕ → Reading Tokens) (s : List ℕ) where
  -- A content token that is read had room.
  pub token_room : (at : ℕ) (full : Bool) (ps : List Place) (n : ℕ) → Gives (λ (t : Tokens). full ≡ false) (token long inner s at full ps n)
  token_room at full ps n =
      token_holds s long inner at full ps n (λ m k h. tt) (λ x l e. x) (λ x l. x) (λ x l. on (each (inner at ps (n + 1)) (λ m k e. tt) (λ t e. x)) (λ t y. reads y))

  abbrev Roomy : ℕ → Further → Type 0
  Roomy k (closed t) = Unit {0}
  Roomy k (joined b t) = k < GRPCNT

  further_roomy : (k joint : ℕ) (t : Tokens) → Gives (Roomy k) (further long inner s k joint t)
  further_roomy k joint t =
      further_holds s long inner k joint t (λ m k h. tt) (λ i l h. tt)
      (λ b i j q e f m l h. on (token_room j (leb GRPCNT k || leb GRPGTCNT t.tokens) t.places t.tokens) (λ u x. reads (leb-false GRPCNT k (or_none _ _ x).0)))

  pub further_room : (k joint : ℕ) (t : Tokens) (b : ℕ) (u : Tokens) → further long inner s k joint t ≡ got (joined b u) → k < GRPCNT
  further_room k joint t b u e = got_so (further_roomy k joint t) e

  -- The bound on the content tokens of a group is never reached: any two that are enough give the same.
  pub members_enough : (m n k joint : ℕ) (t : Tokens) → k ≤ GRPCNT → GRPCNT < m + k → GRPCNT < n + k → members long inner s m k joint t ≡ members long inner s n k joint t
  unfolding members
  members_enough zero n k joint t h i j = absurd (omega arith)
  members_enough (suc m) zero k joint t h i j = absurd (omega arith)
  members_enough (suc m) (suc n) k joint t h i j = on_same (further_roomy k joint t) (by_further (λ b u l. members_enough m n (k + 1) b u (omega arith) (omega arith) (omega arith)))
    where
      by_further : ((b : ℕ) (u : Tokens) → k < GRPCNT → members long inner s m (k + 1) b u ≡ members long inner s n (k + 1) b u) → (x : Further) → Roomy k x
          → ◌≡◌ {A = Reading Tokens} (elim x [ closed u ↦ got u | joined b u ↦ members long inner s m (k + 1) b u ]) (elim x [ closed u ↦ got u | joined b u ↦ members long inner s n (k + 1) b u ])
      by_further ih (closed u) r = refl
      by_further ih (joined b u) r = ih b u r

-- The walk builds what the groups are read as.

-- What is to hold of a group g that is read behind the places ps, where qs are the places then: of a place, whose name has at most `long`
-- bytes, of an indicator, of a connector.
pub record Builds (long : ℕ) (T : (ps : List Place) → Group → (qs : List Place) → Type 0) : Type 0 where
  pub name : (ps : List Place) (x : Place) → 1 ≤ x.size → x.size ≤ long → T ps (new_place ps) (ps ++ x ∷ [])
  pub pcdata : (ps : List Place) (x : Place) → x.size ≡ 0 → T ps (star (new_place ps)) (ps ++ x ∷ [])
  pub optional : {ps qs : List Place} {g : Group} → T ps g qs → T ps (opt g) qs
  pub repeated : {ps qs : List Place} {g : Group} → T ps g qs → T ps (plus g) qs
  pub sequence : {ps qs rs : List Place} {g h : Group} → T ps g qs → T qs h rs → T ps (seq g h) rs
  pub choice : {ps qs rs : List Place} {g h : Group} → T ps g qs → T qs h rs → T ps (alt g h) rs
  pub any_order : {ps qs rs : List Place} {g h : Group} → T ps g qs → T qs h rs → T ps (and (also (one g) h)) rs
  pub another : {ps qs rs : List Place} {m : Members} {h : Group} → T ps (and m) qs → T qs h rs → T ps (and (also m h)) rs

-- What was read from `at` on, behind the places ps.
pub record Read (s : List ℕ) (T : List Place → Group → List Place → Type 0) (at : ℕ) (ps : List Place) (t : Tokens) : Type 0 where
  pub from : at ≤ t.at
  pub inside : t.at ≤ length s
  pub fits : Fits s t.places t.tokens
  pub built : T ps t.group t.places
  -- Something was read; where no "&" is told, there is none, and where none is refused, none stands under "+".
  pub some : 1 ≤ t.at
  pub plain : t.and ≡ 0 → Plain t.group
  pub guarded : t.repeated ≡ 0 → Guarded t.group

-- The same of a content, read from i on.
abbrev pub Built : (List Place → Group → List Place → Type 0) → Content → Type 0
Built T empty = Unit {0}
Built T (model g ps n) = T [] g ps

-- No "&" group of a model stands in what carries "+" or "*".
abbrev pub GuardedIn : Content → Type 0
GuardedIn empty = Unit {0}
GuardedIn (model g ps n) = Guarded g

pub record ContentRead (s : List ℕ) (T : List Place → Group → List Place → Type 0) (i : ℕ) (x : ContentEnd) : Type 0 where
  pub from : i ≤ x.at
  pub inside : x.at ≤ length s
  pub content : ContentIn s x.content
  pub built : Built T x.content
  pub guarded : x.repeated ≡ 0 → GuardedIn x.content

-- Where an indicator leaves no "&" refused.
indicated_guarded : (t : Tokens) {h : Group} {n : ℕ} → Indicated t h n → (t.and ≡ 0 → Plain t.group) → (t.repeated ≡ 0 → Guarded t.group) → n ≡ 0 → Guarded h
indicated_guarded t optional x y e = y e
indicated_guarded t repeated x y e = x e
indicated_guarded t any x y e = x e

indicated_plain : (t : Tokens) {h : Group} {n : ℕ} → Indicated t h n → Plain t.group → Plain h
indicated_plain t optional x = x
indicated_plain t repeated x = x
indicated_plain t any x = x

-- Of two positions the first is 0 where both are.
pub earlier_none : (i j : ℕ) → earlier i j ≡ 0 → (i ≡ 0) × (j ≡ 0)
earlier_none i j e = bool_cases (eqb i 0) (λ x. (eqb-true i 0 x, rw (x, earlier) at e)) (λ x. absurd (not_both x (eq-eqb i 0 (rw (x, earlier) at e))))

member_guarded : (g h : Group) → Guarded g → Guarded h → Guarded (and (also (members_of g) h))
member_guarded (place n) h x y = (x, y)
member_guarded (seq a b) h x y = (x, y)
member_guarded (alt a b) h x y = (x, y)
member_guarded (opt a) h x y = (x, y)
member_guarded (plus a) h x y = (x, y)
member_guarded (and m) h x y = (x, y)

join_guarded : (k b : ℕ) (g h : Group) → Guarded g → Guarded h → Guarded (join k b g h)
join_guarded k b g h x y =
    whichever Guarded (eqb b SEQ) (λ e. (x, y))
    (λ e. whichever Guarded (eqb b OR) (λ f. (x, y)) (λ f. whichever (λ (z : Members). Guarded (and (also z h))) (leb k 1) (λ i. (x, y)) (λ i. member_guarded g h x y)))

-- Where the first "&" stands that a connector at i and what follows it bring.
abbrev and_at : (b i j : ℕ) → ℕ
and_at b i j = elim (eqb b AND) [ true ↦ i | false ↦ j ]

-- "&" joins to a group that has one, and tells where.
join_plain : (k b i j : ℕ) (g h : Group) → is_connector b ≡ true → 1 ≤ i → and_at b i j ≡ 0 → Plain g → (j ≡ 0 → Plain h) → Plain (join k b g h)
join_plain k b i j g h c l e x y =
    whichever Plain (eqb b SEQ) (λ u. (x, y (other u)))
    (λ u. whichever Plain (eqb b OR) (λ v. (x, y (choice v))) (λ v. absurd (and_only u v)))
  where
    other : eqb b SEQ ≡ true → j ≡ 0
    other u = subst (λ (v : ℕ). and_at v i j ≡ 0) (eqb-true b SEQ u) e

    choice : eqb b OR ≡ true → j ≡ 0
    choice v = subst (λ (w : ℕ). and_at w i j ≡ 0) (eqb-true b OR v) e

    told : eqb b AND ≡ true → i ≡ 0
    told d = subst (λ (v : ℕ). and_at v i j ≡ 0) (eqb-true b AND d) e

    and_only : eqb b SEQ ≡ false → eqb b OR ≡ false → ⊥
    and_only u v = let d : eqb b AND ≡ true = rw (u, v) at c in omega (arith, told d)

module _ (long : ℕ) (s : List ℕ) {T : List Place → Group → List Place → Type 0} (build : Builds long T) where
  indicated : {t : Tokens} {h : Group} {n : ℕ} {ps qs : List Place} → Indicated t h n → T ps t.group qs → T ps h qs
  indicated optional x = build.optional x
  indicated repeated x = build.repeated x
  indicated any x = build.optional (build.repeated x)

  member_more : (g : Group) {h : Group} {ps qs rs : List Place} → T ps g qs → T qs h rs → T ps (and (also (members_of g) h)) rs
  member_more (place n) x y = build.any_order x y
  member_more (seq a b) x y = build.any_order x y
  member_more (alt a b) x y = build.any_order x y
  member_more (opt a) x y = build.any_order x y
  member_more (plus a) x y = build.any_order x y
  member_more (and m) x y = build.another x y

  connected : (k b : ℕ) {g h : Group} {ps qs rs : List Place} → T ps g qs → T qs h rs → T ps (join k b g h) rs
  connected k b {g} {h} {ps} {qs} {rs} x y =
      whichever (λ (z : Group). T ps z rs) (eqb b SEQ) (λ e. build.sequence x y)
      (λ e. whichever (λ (z : Group). T ps z rs) (eqb b OR) (λ f. build.choice x y)
      (λ f. whichever (λ (z : Members). T ps (and (also z h)) rs) (leb k 1) (λ i. build.any_order x y) (λ i. member_more g x y)))

  pub occurrence_read : {at : ℕ} {ps : List Place} (t : Tokens) → Read s T at ps t → Read s T at ps (occurrence s t)
  occurrence_read {at} {ps} t r =
      occurrence_holds (Read s T at ps) s t r (λ g n i l. record { from = omega (arith, r.from); inside = omega arith; fits = r.fits; built = indicated i r.built; some = omega arith; plain = λ e. indicated_plain t i (r.plain e); guarded = indicated_guarded t i r.plain r.guarded })

  abbrev InnerRead : (ℕ → List Place → ℕ → Reading Tokens) → Type 0
  InnerRead inner = (at : ℕ) (ps : List Place) (n : ℕ) → at < length s → Fits s ps n → Holds (InType s) (Read s T at ps) (inner at ps n)

  -- What follows behind the places ps, from `at` on.
  abbrev FurtherRead : (at : ℕ) → List Place → Further → Type 0
  FurtherRead at ps (closed t) = Read s T at ps t
  FurtherRead at ps (joined b t) = Read s T at ps t

  module _ (inner : ℕ → List Place → ℕ → Reading Tokens) (inner_read : InnerRead inner) where
    token_read : (at : ℕ) (full : Bool) (ps : List Place) (n : ℕ) → at ≤ length s → Fits s ps n → (full ≡ false → n < GRPGTCNT) → Holds (InType s) (Read s T at ps) (token long inner s at full ps n)
    token_read at full ps n h f room =
        token_holds s long inner at full ps n (λ m k i. i h)
        (λ x l e.
        let i = letter_in s at l in
        occurrence_read _
        (record {
          from = name_end_from s at;
          inside = name_end_le s at h;
          fits = fits_place f (room x) (record { begins = i; ends = omega (arith, name_end_from s at, name_end_le s at h); named = λ _. l });
          built = build.name ps (name_place s at) (omega (arith, name_end_more s at l)) e;
          some = omega (arith, name_end_more s at l);
          plain = λ _. refl;
          guarded = λ _. refl;
        }))
        (λ x l.
        record {
          from = omega (arith, name_end_from s (at + 1));
          inside = name_end_le s (at + 1) (omega arith);
          fits = fits_place f (room x) (record { begins = l; ends = omega arith; named = λ i. absurd (omega arith) });
          built = build.pcdata ps (data_place at) refl;
          some = omega (arith, name_end_from s (at + 1));
          plain = λ _. refl;
          guarded = λ _. refl;
        })
        (λ x l. on (inner_read at ps (n + 1) l (fits_group f (room x))) (λ t r. reads (occurrence_read t r)))

    further_read : {at : ℕ} {ps : List Place} (k joint : ℕ) (t : Tokens) → Read s T at ps t → Holds (InType s) (FurtherRead at ps) (further long inner s k joint t)
    further_read {at} {ps} k joint t r =
        further_holds s long inner k joint t (λ m k i. i r.inside)
        (λ i l h. record { from = omega (arith, r.from); inside = omega arith; fits = r.fits; built = r.built; some = omega arith; plain = r.plain; guarded = r.guarded })
        (λ b i j q e f m l h.
        on (token_read j (leb GRPCNT k || leb GRPGTCNT t.tokens) t.places t.tokens h r.fits (λ x. leb-false _ _ (or_none (leb GRPCNT k) _ x).1))
        (λ u v. reads (record {
          from = omega (arith, r.from, v.from);
          inside = v.inside;
          fits = v.fits;
          built = connected k b r.built v.built;
          some = v.some;
          plain = λ e. let (x, y) = earlier_none t.and _ e in join_plain k b i u.and t.group u.group q (omega (arith, f, r.some)) y (r.plain x) v.plain;
          guarded = λ e. let (x, y) = earlier_none t.repeated u.repeated e in join_guarded k b t.group u.group (r.guarded x) (v.guarded y);
        })))

    members_read : {at : ℕ} {ps : List Place} (left k joint : ℕ) (t : Tokens) → Read s T at ps t → Holds (InType s) (Read s T at ps) (members long inner s left k joint t)
    unfolding members
    members_read zero k joint t r = stops {n = 6} {k = t.at} (omega (arith, r.inside))
    members_read {at} {ps} (suc left) k joint t r = on (further_read k joint t r) (by_further (λ b u v. members_read left (k + 1) b u v))
      where
        by_further : ((b : ℕ) (u : Tokens) → Read s T at ps u → Holds (InType s) (Read s T at ps) (members long inner s left (k + 1) b u))
            → (x : Further) → FurtherRead at ps x → Holds (InType s) (Read s T at ps) (elim x [ closed u ↦ got u | joined b u ↦ members long inner s left (k + 1) b u ])
        by_further ih (closed u) v = reads v
        by_further ih (joined b u) v = ih b u v

  from_before : {at i : ℕ} {ps : List Place} {t : Tokens} → at ≤ i → Read s T i ps t → Read s T at ps t
  from_before h r = record { from = omega (arith, r.from); inside = r.inside; fits = r.fits; built = r.built; some = r.some; plain = r.plain; guarded = r.guarded }

  pub group_read : (levels : ℕ) → InnerRead (group long levels s)
  unfolding group
  group_read zero at ps n h f = stops {n = 6} {k = at} (omega arith)
  group_read (suc levels) at ps n h f =
      let i = separators_end s (at + 1) in
      on (token_read (group long levels s) (group_read levels) i (leb GRPGTCNT n) ps n (separators_end_le s (at + 1) (omega arith)) f (leb-false _ _))
      (λ t r. members_read (group long levels s) (group_read levels) GRPCNT 1 0 t (from_before (omega (arith, separators_end_from s (at + 1))) r))

  content_model_read : (i : ℕ) → i < length s → Holds (InFrom s i) (ContentRead s T i) (content_model long s i)
  unfolding content_model
  content_model_read i h =
      on (so (group_read GRPLVL i [] 0 h (fits_none s)) (λ n k x l. x) (λ t r. r)) λ t r.
      let v = occurrence_read t r in
      reads (record { from = v.from; inside = v.inside; content = v.fits; built = v.built; guarded = v.guarded })

  content_word_read : (from i : ℕ) → letter (byte_at s i) ≡ true → Holds (InFrom s i) (ContentRead s T i) (content_word long s from i)
  unfolding content_word
  content_word_read from i l =
      let e = name_end s i in
      let h = letter_in s i l in
      either (ltb long (e - i)) (λ x. stops (λ y. omega arith))
      (λ x. either (ltb from i && is_word s i e EMPTY) (λ y. reads (record { from = name_end_from s i; inside = name_end_le s i (omega arith); content = tt; built = tt; guarded = λ _. tt }))
      (λ y. either (is_word s i e ANY || is_word s i e CDATA || is_word s i e RCDATA) (λ z. stops (λ u. omega arith))
      (λ z. either (ltb from i && is_cut s i e EMPTY) (λ u. stops (λ v. omega arith)) (λ u. stops (λ v. omega arith)))))

  -- The content of a declaration. Only a refusal asks that it begins in the input.
  pub content_read_lem : (from i : ℕ) → Holds (InFrom s i) (ContentRead s T i) (content long s from i)
  unfolding content
  content_read_lem from i =
      let b = byte_at s i in
      either (eqb b GRPO) (λ x. content_model_read i (test_in (λ v. eqb v GRPO) refl s i x))
      (λ x. either (letter b) (λ y. content_word_read from i y) (λ y. unfit_holds s i (λ n k h. h)))

-- Where nothing is asked of the group.
abbrev pub Whatever : List Place → Group → List Place → Type 0
Whatever ps g qs = Unit {0}

pub whatever_builds : {long : ℕ} → Builds long Whatever
whatever_builds = record { name = λ ps x l m. tt; pcdata = λ ps x e. tt; optional = λ x. tt; repeated = λ x. tt; sequence = λ x y. tt; choice = λ x y. tt; any_order = λ x y. tt; another = λ x y. tt }

-- A content ends behind where it begins.
pub content_from : (long : ℕ) (s : List ℕ) (from i : ℕ) (x : ContentEnd) → content long s from i ≡ got x → i ≤ x.at
content_from long s from i x e = (got_so (content_read_lem long s whatever_builds from i) e).from
