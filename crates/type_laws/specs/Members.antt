-- The "&" groups of a type file that was read: each has two to 32 members, and a model has at most 96 of them in all, since each is a content token; where
-- the text has no "&" there is none.
use Prim.Native.Nat.{ℕ, zero, suc, ◌+◌, ◌-◌, ◌≤◌, ◌<◌}
use Rattle.std.specs.Prelude.{◌≡◌, Bool, true, false, ◌&&◌, ◌||◌, eqb, leb, ltb}
use Rattle.std.proofs.Math.Path.{refl}
use Rattle.std.proofs.Common.{sym, ◌∙◌, subst, eqb-true, leb-true, leb-false}
use mathlib.Core.List.{List, [], ◌∷◌, Memᴰ}
use native.Mathlib.Omega.{arith}
use Rattle.std.proofs.Math.ListN.{length}
use Rattle.rules.specs.Bytes.{byte_at, letter, name_end, GRPCNT, GRPLVL, GRPGTCNT, AND, SEQ, OR, GRPO}
use Rattle.rules.specs.Reading.{Reading, got}
use Rattle.rules.specs.Walk.{Group, place, seq, alt, opt, plus, and, Members, one, also}
use Rattle.rules.specs.TypeFile.{is_word, is_cut, EMPTY, ANY, CDATA, RCDATA, Place, Tokens, occurrence, is_connector, members_of, join, join_tokens, token, Further, closed, joined, further, members, group, Content, empty, model, ContentEnd, content_model, content_word, content, Element, type_file}
use Rattle.rules.specs.Judge.{first_repeated}
use Rattle.rules.specs.Elements.{element_at, content_of}
use Rattle.basic_laws.specs.Truth.{bool_cases, or_none}
use Rattle.and_laws.specs.Sets.{Plain}
use Rattle.and_laws.specs.Numbers.{Guarded, GuardedM}
use Rattle.member_laws.specs.Members.{total, total_m, Sized, SizedM}
use Rattle.rules_laws.specs.Holds.{Gives, stops, reads, got_so, on, either, whichever}
use Rattle.rules_laws.specs.Within.{Fits, ContentIn}
use Rattle.rules_laws.specs.Groups.{Indicated, optional, repeated, any, occurrence_holds, token_holds, further_holds, unfit_holds, GuardedIn}
use Rattle.type_laws.specs.Made.{each_content, type_file_made}
use Rattle.type_laws.specs.Width.{type_file_content}
use Rattle.model_sets.specs.Sets.{amount}

-- No "&" stands in the text.
abbrev pub Without : List ℕ → Type 0
Without s = (i : ℕ) → i < length s → byte_at s i ≡ AND → ⊥

-- The "&" that are told of a group stand in the text, and there is one where one is told: at all, and where none may stand.
abbrev AndAt : List ℕ → ℕ → Type 0
AndAt s i = (i ≤ length s) × (1 ≤ i → byte_at s i ≡ AND)

abbrev AndIn : List ℕ → Group → (and repeated : ℕ) → Type 0
AndIn s g i j = AndAt s i × AndAt s j × (1 ≤ i → Plain g → ⊥) × (1 ≤ j → Guarded g → ⊥)

-- What holds of tokens that were read behind n others: they count at least one more for each member.
abbrev Counts : List ℕ → ℕ → Tokens → Type 0
Counts s n t = Sized t.group × (n + total t.group ≤ t.tokens) × (Without s → Plain t.group) × AndIn s t.group t.and t.repeated

indicated_counts : (s : List ℕ) (n : ℕ) (t : Tokens) {g : Group} {k : ℕ} → Indicated t g k → Counts s n t → Sized g × (n + total g ≤ t.tokens) × (Without s → Plain g) × AndIn s g t.and k
indicated_counts s n t optional c = c
indicated_counts s n t repeated (z, l, w, (a, r, p, g)) = (z, l, w, (a, a, p, p))
indicated_counts s n t any (z, l, w, (a, r, p, g)) = (z, l, w, (a, a, p, p))

occurrence_counts : (n : ℕ) (s : List ℕ) (t : Tokens) → Counts s n t → Counts s n (occurrence s t)
occurrence_counts n s t c = occurrence_holds (Counts s n) s t c (λ g k i l. indicated_counts s n t i c)

-- A group of which k tokens were read behind n others. One that is no "&" group has a token besides its members; an "&" group of several has at most k.
abbrev spare : Group → ℕ
spare (place p) = 1
spare (seq g h) = 1
spare (alt g h) = 1
spare (opt g) = 1
spare (plus g) = 1
spare (and m) = 0

record Growing (s : List ℕ) (n k : ℕ) (t : Tokens) : Type 0 where
  sized : Sized t.group
  alone : k ≤ 1 → n + 1 + total t.group ≤ t.tokens
  counted : n + spare t.group + total t.group ≤ t.tokens
  few : 2 ≤ k → amount (members_of t.group) ≤ k
  plain : Without s → Plain t.group
  within : AndIn s t.group t.and t.repeated

spare_one : (g : Group) → spare g ≤ 1
spare_one (place p) = omega arith
spare_one (seq g h) = omega arith
spare_one (alt g h) = omega arith
spare_one (opt g) = omega arith
spare_one (plus g) = omega arith
spare_one (and m) = omega arith

-- The members of a group are its own, or it is the only one.
of_members : (g : Group) → Sized g → SizedM (members_of g) × (total_m (members_of g) + amount (members_of g) ≡ total g + spare g) × (1 ≤ amount (members_of g))
of_members (place p) z = (z, omega arith, omega arith)
of_members (seq g h) z = (z, omega arith, omega arith)
of_members (alt g h) z = (z, omega arith, omega arith)
of_members (opt g) z = (z, omega arith, omega arith)
of_members (plus g) z = (z, omega arith, omega arith)
of_members (and m) z = (z.0, omega arith, omega (arith, z.1))

of_guarded : (g : Group) → GuardedM (members_of g) → Guarded g
of_guarded (place p) x = x
of_guarded (seq g h) x = x
of_guarded (alt g h) x = x
of_guarded (opt g) x = x
of_guarded (plus g) x = x
of_guarded (and m) x = x

-- A further token is joined.
module _ (s : List ℕ) (n k : ℕ) (t u : Tokens) (grows : Growing s n k t) (some : 1 ≤ k) (room : k < GRPCNT) (counts : Counts s (t.tokens + 1) u) where
  abbrev Joined : Group → Type 0
  Joined g = Sized g × (n + spare g + total g ≤ u.tokens) × (amount (members_of g) ≤ k + 1)

  joined_first : k ≤ 1 → Joined (and (also (one t.group) u.group))
  joined_first l = (((grows.sized, counts.0), omega arith, omega arith), omega (arith, counts.1, grows.alone l), omega arith)

  joined_further : 2 ≤ k → Joined (and (also (members_of t.group) u.group))
  joined_further l =
      let (z, e, o) = of_members t.group grows.sized in
      (((z, counts.0), omega arith, omega (arith, grows.few l)), omega (arith, e, counts.1, grows.counted), omega (arith, grows.few l))

  joined_by : (b : ℕ) → Joined (join k b t.group u.group)
  joined_by b =
      whichever Joined (eqb b SEQ) (λ e. ((grows.sized, counts.0), omega (arith, counts.1, grows.counted), omega arith))
      (λ e. whichever Joined (eqb b OR) (λ f. ((grows.sized, counts.0), omega (arith, counts.1, grows.counted), omega arith))
      (λ f. whichever (λ (z : Members). Joined (and (also z u.group))) (leb k 1) (λ i. joined_first (leb-true k 1 i)) (λ i. joined_further (leb-false k 1 i))))

  -- Without "&" it is joined by another connector.
  joined_plain : (b i : ℕ) → is_connector b ≡ true → b ≡ byte_at s i → i < length s → Without s → Plain (join k b t.group u.group)
  joined_plain b i q e l w =
      whichever Plain (eqb b SEQ) (λ x. (grows.plain w, counts.2 w))
      (λ x. whichever Plain (eqb b OR) (λ y. (grows.plain w, counts.2 w)) (λ y. absurd (w i l (sym e ∙ eqb-true b AND (rw (x, y) at q)))))

  joined_within : (b i : ℕ) → b ≡ byte_at s i → i < length s → AndIn s (join k b t.group u.group) (join_tokens k b i t u).and (join_tokens k b i t u).repeated
  joined_within b i q l =
      let (z, m, w, (a, r, p, g)) = counts in
      let (c, d, o, h) = grows.within in (
        whichever (AndAt s) (eqb t.and 0) (λ x. whichever (AndAt s) (eqb b AND) (λ y. (omega arith, λ v. sym q ∙ eqb-true b AND y)) (λ y. a)) (λ x. c),
        whichever (AndAt s) (eqb t.repeated 0) (λ x. r) (λ x. d),
        whichever
            (λ (j : ℕ). 1 ≤ j → Plain (join k b t.group u.group) → ⊥)
            (eqb t.and 0)
            (λ x. whichever (λ (j : ℕ). 1 ≤ j → Plain (join k b t.group u.group) → ⊥) (eqb b AND) (λ y v f. (plain_parts b f).2 y) (λ y v f. p v (plain_parts b f).1))
            (λ x v f. o v (plain_parts b f).0),
        whichever
            (λ (j : ℕ). 1 ≤ j → Guarded (join k b t.group u.group) → ⊥)
            (eqb t.repeated 0)
            (λ x v f. g v (guarded_parts b f).1)
            (λ x v f. h v (guarded_parts b f).0),
      )
    where
      other : (b : ℕ) → eqb b SEQ ≡ true → eqb b AND ≡ true → ⊥
      other b x y = omega (arith, eqb-true b SEQ x, eqb-true b AND y)

      another : (b : ℕ) → eqb b OR ≡ true → eqb b AND ≡ true → ⊥
      another b x y = omega (arith, eqb-true b OR x, eqb-true b AND y)

      Parts : Group → ℕ → Type 0
      Parts x b = Plain x → Plain t.group × Plain u.group × (eqb b AND ≡ true → ⊥)

      plain_parts : (b : ℕ) → Plain (join k b t.group u.group) → Plain t.group × Plain u.group × (eqb b AND ≡ true → ⊥)
      plain_parts b =
          whichever (λ (x : Group). Parts x b) (eqb b SEQ) (λ x f. (f.0, f.1, λ y. other b x y))
          (λ x. whichever (λ (x : Group). Parts x b) (eqb b OR) (λ y f. (f.0, f.1, λ z. another b y z)) (λ y f. absurd f))

      guarded_parts : (b : ℕ) → Guarded (join k b t.group u.group) → Guarded t.group × Guarded u.group
      guarded_parts b =
          whichever (λ (x : Group). Guarded x → Guarded t.group × Guarded u.group) (eqb b SEQ) (λ x f. f)
          (λ x. whichever (λ (x : Group). Guarded x → Guarded t.group × Guarded u.group) (eqb b OR) (λ y f. f)
          (λ y. whichever (λ (m : Members). Guarded (and (also m u.group)) → Guarded t.group × Guarded u.group) (leb k 1) (λ i f. f) (λ i f. (of_guarded t.group f.0, f.1))))

-- Groups are read member by member.

module _ (long : ℕ) (s : List ℕ) where
  abbrev InnerCounts : (ℕ → List Place → ℕ → Reading Tokens) → Type 0
  InnerCounts inner = (at : ℕ) (ps : List Place) (n : ℕ) → Gives (Counts s n) (inner at ps n)

  abbrev FurtherGrows : (n k : ℕ) → Further → Type 0
  FurtherGrows n k (closed t) = Counts s n t
  FurtherGrows n k (joined b t) = Growing s n (k + 1) t

  module _ (inner : ℕ → List Place → ℕ → Reading Tokens) (inner_counts : InnerCounts inner) where
    token_counts : (at : ℕ) (full : Bool) (ps : List Place) (n : ℕ) → Gives (λ (t : Tokens). (full ≡ false) × Counts s (n + 1) t) (token long inner s at full ps n)
    token_counts at full ps n =
        token_holds s long inner at full ps n (λ m k h. tt)
        (λ x l e. (x, occurrence_counts (n + 1) s _ (refl, omega arith, λ w. refl, ((omega arith, λ v. absurd (omega arith)), (omega arith, λ v. absurd (omega arith)), λ v. absurd (omega arith), λ v. absurd (omega arith)))))
        (λ x l. (x, (refl, omega arith, λ w. refl, ((omega arith, λ v. absurd (omega arith)), (omega arith, λ v. absurd (omega arith)), λ v. absurd (omega arith), λ v. absurd (omega arith)))))
        (λ x l. on (inner_counts at ps (n + 1)) (λ t y. reads (x, occurrence_counts (n + 1) s t y)))

    further_grows : (n k joint : ℕ) (t : Tokens) → 1 ≤ k → Growing s n k t → Gives (FurtherGrows n k) (further long inner s k joint t)
    further_grows n k joint t some grows =
        further_holds s long inner k joint t (λ m k h. tt)
        (λ i l h. (grows.sized, omega (arith, grows.counted), grows.plain, grows.within))
        (λ b i j q e f m l h. on (token_counts j (leb GRPCNT k || leb GRPGTCNT t.tokens) t.places t.tokens)
        (λ u x.
        let room = leb-false GRPCNT k (or_none (leb GRPCNT k) (leb GRPGTCNT t.tokens) x.0).0 in
        let y = joined_by s n k t u grows some room x.1 b in
        reads (record { sized = y.0; alone = λ l. absurd (omega arith); counted = y.1; few = λ l. y.2; plain = joined_plain s n k t u grows some room x.1 b i q e m; within = joined_within s n k t u grows some room x.1 b i e m })))

    members_count : (n left k joint : ℕ) (t : Tokens) → 1 ≤ k → Growing s n k t → Gives (Counts s n) (members long inner s left k joint t)
    unfolding members
    members_count n zero k joint t some grows = stops {n = 6} {k = t.at} tt
    members_count n (suc left) k joint t some grows = on (further_grows n k joint t some grows) (by_further (λ b u v. members_count n left (k + 1) b u (omega arith) v))
      where
        by_further : ((b : ℕ) (u : Tokens) → Growing s n (k + 1) u → Gives (Counts s n) (members long inner s left (k + 1) b u))
            → (x : Further) → FurtherGrows n k x → Gives (Counts s n) (elim x [ closed u ↦ got u | joined b u ↦ members long inner s left (k + 1) b u ])
        by_further ih (closed u) v = reads v
        by_further ih (joined b u) v = ih b u v

  group_counts : (levels : ℕ) → InnerCounts (group long levels s)
  unfolding group
  group_counts zero at ps n = stops {n = 6} {k = at} tt
  group_counts (suc levels) at ps n =
      on (token_counts (group long levels s) (group_counts levels) _ (leb GRPGTCNT n) ps n)
      (λ t x.
      members_count (group long levels s) (group_counts levels) n GRPCNT 1 0 t (omega arith)
      (record { sized = x.1.0; alone = λ l. x.1.1; counted = omega (arith, x.1.1, spare_one t.group); few = λ l. absurd (omega arith); plain = x.1.2; within = x.1.3 }))

  -- A content, read from i on.
  abbrev CountedIn : Content → Type 0
  CountedIn empty = Unit {0}
  CountedIn (model g ps n) = Sized g × (total g ≤ n) × (Without s → Plain g)

  content_counts : (from i : ℕ) → Gives (λ (x : ContentEnd). CountedIn x.content × AndAt s x.repeated × (1 ≤ x.repeated → GuardedIn x.content → ⊥)) (content long s from i)
  unfolding content content_model content_word
  content_counts from i =
      either (eqb (byte_at s i) GRPO)
      (λ x. on (group_counts GRPLVL i [] 0) (λ t y. let (z, l, w, (a, r, p, g)) = occurrence_counts 0 s t y in reads ((z, omega (arith, l), w), r, g)))
      (λ x. either (letter (byte_at s i))
      (λ y. either (ltb long (name_end s i - i)) (λ z. stops tt)
      (λ z. either (ltb from i && is_word s i (name_end s i) EMPTY) (λ u. reads (tt, (omega arith, λ v. absurd (omega arith)), λ v. absurd (omega arith)))
      (λ u. either (is_word s i (name_end s i) ANY || is_word s i (name_end s i) CDATA || is_word s i (name_end s i) RCDATA) (λ v. stops tt)
      (λ v. either (ltb from i && is_cut s i (name_end s i) EMPTY) (λ w. stops tt) (λ w. stops tt)))))
      (λ y. unfit_holds s i (λ n k h. tt)))

  pub type_file_members : (es : List Element) → type_file long s ≡ got es → (k : ℕ) {g : Group} {ps : List Place} {n : ℕ} → content_of es k ≡ model g ps n → Sized g × (total g ≤ GRPGTCNT) × (Without s → Plain g)
  type_file_members es read k {g} {ps} {n} e =
      let x : Sized g × (total g ≤ n) × (Without s → Plain g) = subst CountedIn e (all k) in
      let f : Fits s ps n = subst (ContentIn s) e (type_file_content long s es read k) in
      (x.0, omega (arith, x.1, f.few), x.2)
    where
      all : (k : ℕ) → CountedIn (content_of es k)
      all zero = (refl, omega arith, λ w. refl)
      all (suc k) = each_content CountedIn tt es (λ j h. let d = type_file_made long s es read j h in (got_so (content_counts d.before d.begun) d.content_read).0) k

  -- Where 25 stands is in the text, and an "&".
  repeated_at : (es : List Element) → type_file long s ≡ got es → AndAt s (first_repeated es)
  unfolding first_repeated element_at
  repeated_at es read = go es (λ k h. let d = type_file_made long s es read k h in (got_so (content_counts d.before d.begun) d.content_read).1)
    where
      go : (fs : List Element) → ((k : ℕ) → k < length fs → AndAt s (element_at fs k).repeated) → AndAt s (first_repeated fs)
      go [] f = (omega arith, λ l. absurd (omega arith))
      go (e ∷ fs) f = bool_cases (eqb e.repeated 0) (λ x. rw (x, first_repeated) (go fs (λ k h. f (suc k) (omega arith)))) (λ x. rw (x, first_repeated) (f 0 (omega arith)))

  pub type_file_repeated : (es : List Element) → type_file long s ≡ got es → first_repeated es ≤ length s
  type_file_repeated es read = (repeated_at es read).0

  pub type_file_ampersand : (es : List Element) → type_file long s ≡ got es → 1 ≤ first_repeated es → byte_at s (first_repeated es) ≡ AND
  type_file_ampersand es read = (repeated_at es read).1

  -- Under 25 some model has an "&" where none may stand.
  pub type_file_unguarded : (es : List Element) → type_file long s ≡ got es → 1 ≤ first_repeated es → (e : Element) × Memᴰ e es × (GuardedIn e.content → ⊥)
  unfolding first_repeated element_at
  type_file_unguarded es read = go es (λ k h. let d = type_file_made long s es read k h in (got_so (content_counts d.before d.begun) d.content_read).2)
    where
      go : (fs : List Element) → ((k : ℕ) → k < length fs → 1 ≤ (element_at fs k).repeated → GuardedIn (element_at fs k).content → ⊥) → 1 ≤ first_repeated fs → (e : Element) × Memᴰ e fs × (GuardedIn e.content → ⊥)
      go [] f l = absurd (omega arith)
      go (e ∷ fs) f l =
          bool_cases (eqb e.repeated 0)
          (λ x. let (h, m, g) = go fs (λ k h. f (suc k) (omega arith)) (rw (x, first_repeated) at l) in (h, Memᴰ.tail m, g))
          (λ x. (e, Memᴰ.head refl, f 0 (omega arith) (rw (x, first_repeated) at l)))
