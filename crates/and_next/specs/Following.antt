-- Which place may come next, from the sets of the groups around the last place and around the one that is asked for: those of the first that do not have the other
-- lack nothing, and in the first that has it its member is that of the last place or has not begun.
use Rattle.std.specs.Prelude.{ℕ, zero, suc, ◌+◌, ◌%◌, ◌≤◌, ◌<◌, ◌≡◌, refl, Bool, true, false, ◌&&◌, ◌||◌, not, List, [], ◌∷◌, length, eqb}
use Rattle.std.proofs.Common.{sym, ◌∙◌, ap, subst, inl, inr, arith, eqb-true, eq-eqb, ne_eqb}
use Rattle.std.proofs.lemmas.Bool.{false≢true, not-false}
use Rattle.std.proofs.Math.Bool.{or-false, or_comm}
use Rattle.std.proofs.Math.Decide.{ℕ_discrete}
use Rattle.rules.specs.Walk.{Group, Members}
use Rattle.rules.specs.Bytes.{GRPGTCNT}
use Rattle.layout.specs.Sizes.{POSITIONS, AND_GROUPS, MEMBERS, ENDING}
use Rattle.basic_laws.specs.Truth.{and_left, and_right, and_both, or_left, or_right, or_cases, not_true, bool_cases}
use Rattle.model_sets.specs.Sets.{Numbered, has, has_m}
use Rattle.and_laws.specs.Base.{mem}
use Rattle.and_laws.specs.Sets.{meets, Good, GoodM}
use Rattle.and_laws.specs.Numbers.{Guarded, numbered_good}
use Rattle.and_laws.specs.Rest.{all_m, any_m}
use Rattle.and_laws.specs.Rows.{fine, unbegun}
use Rattle.and_laws.specs.Levels.{around, together, within, may_in}
use Rattle.and_laws.specs.Ranked.{count, Level, levels, groups_of, levels_rise, levels_around, Rising}
use Rattle.and_laws.specs.Taken.{groups_at}
use Rattle.member_laws.specs.Members.{needs, number_in, group_at, first_at, is_needed, holds_at, among_at, is_own, AllSets, Grouped, Chain, Told, holder_at, begun_at, Marked, AllMarked, Standing}
use Rattle.member_laws.specs.Numbered.{both_tests, any_numbered, numbered_any, numbered_place, numbered_once}
use Rattle.member_laws.specs.Inside.{IsLevel, level_once, level_good, level_around, EachLevel, each_level, AnyLevel, IsSame, IsAround, levels_are, Have}
use Rattle.member_laws.specs.Around.{member_at, is_holder, NumberedAt, held, member_group, member_small, member_begun, chain_kept, chain_none, any_holder}
use Rattle.member_laws.specs.Sets.{First, first_of, short_none, any_own, own_range, own_group, member_own, begun_fine, fine_begun, holds_outward, among_outward, own_above, holder_above}
use Rattle.member_bits.specs.declared.Bits.{Bits}
use Rattle.member_bits.specs.Having.{Has}
use Rattle.and_next.specs.Follows.{Follows}
use Rattle.and_next.specs.Forbidding.{bad, IsFull, IsLeft, Pair, Comes}

-- These laws are of one group that has both places.

module _ (M begun : List ℕ) (level e : ℕ) (S : ℕ → Bool) (l : Level) (good : GoodM l.members) (marked : Marked begun level M e S l) (u p : ℕ) (i : has_m l.members u ≡ true) (j : has_m l.members p ≡ true) where
  -- They are in one member exactly if the numbers are the same.
  same_member : member_at M e u l ≡ member_at M e p l → together l.members u p ≡ true
  same_member z =
      let x = held M e u l i in
      let y = held M e p l j in
      let k = numbered_once (first_at M e l.number) (needs l.members) l.members (omega arith) (member_at M e u l) x.member y.member x.numbered (subst (λ (n : ℕ). NumberedAt M e l n y.member) (sym z) y.numbered) in
      numbered_any _ _ (λ (g : Group). has g u && has g p) l.members (member_at M e u l) x.member x.numbered (and_both x.holds (subst (λ (g : Group). has g p ≡ true) (sym k) y.holds))

  other_member : (member_at M e u l ≡ member_at M e p l → ⊥) → together l.members u p ≡ false
  other_member z = not_true (together l.members u p) (λ t. let (n, k, x, y) = any_numbered _ _ (λ (g : Group). has g u && has g p) l.members t in z (numbered_place _ _ l.members good n k x u (and_left (has k u) _ y) ∙ sym (numbered_place _ _ l.members good n k x p (and_right (has k u) _ y))))

  -- Its member has not begun.
  idle_member : any_m (unbegun S p) l.members ≡ not (begun_at begun level (member_at M e p l))
  idle_member =
      let y = held M e p l j in
      both_tests
      (any_m (unbegun S p) l.members)
      (not (begun_at begun level (member_at M e p l)))
      (λ t.
      let (n, k, x, v) = any_numbered _ _ (unbegun S p) l.members t in
      let same = numbered_once (first_at M e l.number) (needs l.members) l.members (omega arith) n k y.member x (subst (λ (n : ℕ). NumberedAt M e l n y.member) (numbered_place _ _ l.members good n k x p (and_left (has k p) _ v)) y.numbered) in
      ap not (member_begun M e begun level S l marked p j) ∙ subst (λ (g : Group). not (meets g S) ≡ true) same (and_right (has k p) _ v))
      (λ t. numbered_any _ _ (unbegun S p) l.members (member_at M e p l) y.member y.numbered (and_both y.holds (ap not (sym (member_begun M e begun level S l marked p j)) ∙ t)))

  pub within_same : member_at M e u l ≡ member_at M e p l → within l.members u S p ≡ true
  within_same z = or_left _ (same_member z)

  pub within_other : (member_at M e u l ≡ member_at M e p l → ⊥) → within l.members u S p ≡ not (begun_at begun level (member_at M e p l))
  within_other z = ap (λ (t : Bool). t || any_m (unbegun S p) l.members) (other_member z) ∙ idle_member

-- These laws are of the groups of p.

module _ (M : List ℕ) (e : ℕ) (sets : AllSets M e) (g : Group) (p : ℕ) (l : Level) (is : IsLevel g 0 l) where
  -- A member of l that is one of the groups around p, or holds p there: p is in l.
  own_meets : (ks : List Level) → EachLevel (Grouped M e) ks → EachLevel (IsAround g 0 p) ks → (n : ℕ) → group_at M e n ≡ l.number → any_own M e n ks ≡ true → has_m l.members p ≡ true
  own_meets [] q a n z i = absurd (false≢true i)
  own_meets (k ∷ ks) (q, qs) (a, aa) n z i =
      or_cases (is_own M e k.number n) (any_own M e n ks)
      (λ o. subst (λ (m : Members). has_m m p ≡ true) (sym (level_once g 0 l k is a.0 (sym z ∙ own_group M e k q n o))) a.1)
      (λ o. own_meets ks qs aa n z o) i

  -- It is then the member of l that has p.
  holder_meets : (ks : List Level) → EachLevel (Grouped M e) ks → EachLevel (IsAround g 0 p) ks → (n : ℕ) → group_at M e n ≡ l.number → is_holder M e p n ks ≡ true → (has_m l.members p ≡ true) × (n ≡ member_at M e p l)
  holder_meets [] q a n z i = absurd (false≢true i)
  holder_meets (k ∷ ks) (q, qs) (a, aa) n z i = or_cases (eqb n (member_at M e p k)) (is_holder M e p n ks) here (λ o. holder_meets ks qs aa n z o) i
    where
      here : eqb n (member_at M e p k) ≡ true → (has_m l.members p ≡ true) × (n ≡ member_at M e p l)
      here o =
          let x : n ≡ member_at M e p k = eqb-true n (member_at M e p k) o in
          let number : l.number ≡ k.number = sym z ∙ ap (group_at M e) x ∙ member_group M e k q p a.1 in
          let same : l.members ≡ k.members = level_once g 0 l k is a.0 number in
          (subst (λ (m : Members). has_m m p ≡ true) (sym same) a.1, x ∙ sym (ap (λ (v : ℕ). number_in (first_at M e v) (needs l.members) l.members p) number ∙ ap (λ (m : Members). number_in (first_at M e k.number) (needs m) m p) same))

  -- Where p is in l, this is one of the groups around it.
  any_above : (a c : ℕ) (ks : List Level) → Rising a c ks → AnyLevel (IsSame l) ks → a < l.number
  any_above a c [] r x = absurd x
  any_above a c (k ∷ ks) (r, rs) (inl x) = omega (arith, x.0)
  any_above a c (k ∷ ks) (r, rs) (inr x) = omega (arith, any_above k.number c ks rs x)

  among_inner : (a c : ℕ) (ends : Bool) (h : ℕ) (ks : List Level) → Chain M e p ends h ks → Rising a c ks → EachLevel (λ (k : Level). has_m k.members p ≡ true) ks → AnyLevel (IsSame l) ks → (n : ℕ) → 1 ≤ n → n < POSITIONS → among_at M e l.number n ≡ true → any_own M e n ks ≡ true
  among_inner a c ends h [] chain r i x n y z w = absurd x
  among_inner a c ends h (k ∷ ks) chain r i (inl x) n y z w = sym (among_outward M e sets p a c ends h k ks chain r i n y z) ∙ ap (λ (v : ℕ). among_at M e v n) x.0 ∙ w
  among_inner a c ends h (k ∷ ks) chain r i (inr x) n y z w = or_right (is_own M e k.number n) (among_inner k.number c _ _ ks chain.4 r.1 i.1 x n y z w)

  holds_inner : (a c : ℕ) (ends : Bool) (h : ℕ) (ks : List Level) → Chain M e p ends h ks → Rising a c ks → EachLevel (λ (k : Level). has_m k.members p ≡ true) ks → AnyLevel (IsSame l) ks → (n : ℕ) → 1 ≤ n → n < POSITIONS → l.number < group_at M e n → is_holder M e p n ks ≡ true → holds_at M e l.number n ≡ true
  holds_inner a c ends h [] chain r i x n y z w o = absurd x
  holds_inner a c ends h (k ∷ ks) chain r i (inl x) n y z w o =
      or_cases (eqb n (member_at M e p k)) (is_holder M e p n ks)
      (λ v. absurd (omega (arith, ap (group_at M e) (eqb-true n (member_at M e p k) v), member_group M e k chain.0 p i.0, x.0)))
      (λ v. ap (λ (q : ℕ). holds_at M e q n) (sym x.0) ∙ holds_outward M e sets p a c ends h k ks chain r i n y z ∙ v) o
  holds_inner a c ends h (k ∷ ks) chain r i (inr x) n y z w o =
      or_cases (eqb n (member_at M e p k)) (is_holder M e p n ks)
      (λ v. absurd (omega (arith, ap (group_at M e) (eqb-true n (member_at M e p k) v), member_group M e k chain.0 p i.0, any_above k.number c ks r.1 x)))
      (λ v. holds_inner k.number c _ _ ks chain.4 r.1 i.1 x n y z w v) o

  member_inner : (ks : List Level) → AnyLevel (IsSame l) ks → is_holder M e p (member_at M e p l) ks ≡ true
  member_inner ks x = any_holder M e p (member_at M e p l) ks (go ks x)
    where
      go : (ks : List Level) → AnyLevel (IsSame l) ks → AnyLevel (λ (k : Level). member_at M e p l ≡ member_at M e p k) ks
      go [] x = absurd x
      go (k ∷ ks) (inl x) = inl (ap (λ (v : ℕ). number_in (first_at M e v) (needs l.members) l.members p) (sym x.0) ∙ ap (λ (m : Members). number_in (first_at M e k.number) (needs m) m p) (sym x.1))
      go (k ∷ ks) (inr x) = inr (go ks x)

none_and : (x y : Bool) → (x && false) && y ≡ false
none_and true y = refl
none_and false y = refl

-- These laws are of the groups around both places.
module _
    (M : List ℕ) (e : ℕ) (sets : AllSets M e) (begun : List ℕ) (level : ℕ) (g : Group) (good : Good g) (u p : ℕ) (S : ℕ → Bool)
    (y d : ℕ) (p_chain : Chain M e p true y (levels g 0 p)) (p_rising : Rising 0 d (levels g 0 p)) (p_around : EachLevel (IsAround g 0 p) (levels g 0 p)) where
  abbrev ps : List Level
  ps = levels g 0 p

  abbrev B : ℕ → Bool
  B n = begun_at begun level n

  have : (v : ℕ) (ls : List Level) → EachLevel (IsAround g 0 v) ls → Have v ls
  have v = each_level (IsAround g 0 v) (λ (l : Level). has_m l.members v ≡ true) (λ l a. a.1)

  p_kept : EachLevel (Grouped M e) ps
  p_kept = chain_kept M e p true y ps p_chain

  -- The member n forbids p, of the groups us around u.
  abbrev pub bad_in : List Level → ℕ → Bool
  bad_in us = bad (λ (n : ℕ). any_own M e n us) (λ (n : ℕ). any_own M e n ps) (is_needed M e) B (λ (n : ℕ). is_holder M e p n ps) (λ (n : ℕ). is_holder M e u n us)

  -- The first of them stands before those around it.
  module _ (a c : ℕ) (ends : Bool) (h : ℕ) (l : Level) (us : List Level) (chain : Chain M e u ends h (l ∷ us)) (rising : Rising a c (l ∷ us)) (around : EachLevel (IsAround g 0 u) (l ∷ us)) (marked : Marked begun level M e S l) where
    kept : Grouped M e l
    kept = chain.0

    outer_kept : EachLevel (Grouped M e) us
    outer_kept = chain_kept M e u _ _ us chain.4

    -- Its own members are of no group farther out.
    own_once : (n : ℕ) → is_own M e l.number n ≡ true → any_own M e n us ≡ false
    own_once n o = not_true (any_own M e n us) (λ x. omega (arith, own_group M e l kept n o, own_above M e sets u l.number c us outer_kept rising.1 n x))

    -- The place p is not in it.
    module _ (apart : has_m l.members p ≡ false) where
      bad_own : (n : ℕ) → is_own M e l.number n ≡ true → bad_in (l ∷ us) n ≡ is_needed M e n && not (B n)
      bad_own n o =
          let z = own_group M e l kept n o in
          let x : any_own M e n ps ≡ false = not_true (any_own M e n ps) (λ x. false≢true (sym apart ∙ own_meets M e sets g p l around.0.0 ps p_kept p_around n z x)) in
          let w : is_holder M e p n ps ≡ false = not_true (is_holder M e p n ps) (λ x. false≢true (sym apart ∙ (holder_meets M e sets g p l around.0.0 ps p_kept p_around n z x).0)) in
          rw (o, x, w) (or-false (is_needed M e n && not (B n)))

      bad_other : (n : ℕ) → is_own M e l.number n ≡ false → bad_in (l ∷ us) n ≡ bad_in us n
      bad_other n o =
          let x : eqb n (member_at M e u l) ≡ false = not_true (eqb n (member_at M e u l)) (λ x. false≢true (sym o ∙ ap (is_own M e l.number) (eqb-true n (member_at M e u l) x) ∙ member_own M e l kept u around.0.1)) in
          rw (o, x)

      own_none : (n : ℕ) → is_own M e l.number n ≡ true → bad_in us n ≡ false
      own_none n o = rw (own_once n o) (none_and (is_holder M e p n ps && not (is_holder M e u n us)) (B n))

      may_apart : ((n : ℕ) → 1 ≤ n → n < POSITIONS → bad_in (l ∷ us) n ≡ false) → (((n : ℕ) → 1 ≤ n → n < POSITIONS → bad_in us n ≡ false) → may_in (groups_of us) u S p ≡ true) → may_in (groups_of (l ∷ us)) u S p ≡ true
      may_apart f outer = rw apart (and_both all (outer rest))
        where
          all : all_m (fine S) l.members ≡ true
          all =
              begun_fine M e l kept sets begun level S marked
              (λ n o m. let r = own_range M e l kept n o in not-false (B n) (sym (bad_own n o ∙ ap (λ (t : Bool). t && not (B n)) m) ∙ f n (omega (arith, kept.some)) (omega (arith, kept.room))))

          rest : (n : ℕ) → 1 ≤ n → n < POSITIONS → bad_in us n ≡ false
          rest n x w = bool_cases (is_own M e l.number n) (own_none n) (λ o. sym (bad_other n o) ∙ f n x w)

      apart_may : may_in (groups_of (l ∷ us)) u S p ≡ true → (may_in (groups_of us) u S p ≡ true → (n : ℕ) → 1 ≤ n → n < POSITIONS → bad_in us n ≡ false) → (n : ℕ) → 1 ≤ n → n < POSITIONS → bad_in (l ∷ us) n ≡ false
      apart_may t outer n x w = bool_cases (is_own M e l.number n) own (λ o. bad_other n o ∙ outer (and_right (all_m (fine S) l.members) _ t') n x w)
        where
          t' : all_m (fine S) l.members && may_in (groups_of us) u S p ≡ true
          t' = rw apart at t

          own : is_own M e l.number n ≡ true → bad_in (l ∷ us) n ≡ false
          own o = bad_own n o ∙ bool_cases (is_needed M e n) (λ m. rw (m, fine_begun M e l kept sets begun level S marked (and_left (all_m (fine S) l.members) _ t') n o m)) (λ m. rw m)

    -- The place p is in it.
    module _ (both : has_m l.members p ≡ true) where
      same : AnyLevel (IsSame l) ps
      same = level_around g 0 l around.0.0 good p both

      -- Only the member that has p there can forbid it, if it is not that of u and has begun.
      bad_is : (n : ℕ) → 1 ≤ n → n < POSITIONS → bad_in (l ∷ us) n ≡ true → (member_at M e u l ≡ member_at M e p l → ⊥) × (B (member_at M e p l) ≡ true)
      bad_is n x w t = or_cases (((any_own M e n (l ∷ us) && not (any_own M e n ps)) && is_needed M e n) && not (B n)) _ first second t
        where
          first : ((any_own M e n (l ∷ us) && not (any_own M e n ps)) && is_needed M e n) && not (B n) ≡ true → (member_at M e u l ≡ member_at M e p l → ⊥) × (B (member_at M e p l) ≡ true)
          first i =
              let j = and_left (any_own M e n (l ∷ us) && not (any_own M e n ps)) _ (and_left ((any_own M e n (l ∷ us) && not (any_own M e n ps)) && is_needed M e n) _ i) in
              let k = among_inner M e sets g p l around.0.0 0 d true y ps p_chain p_rising (have p ps p_around) same n x w (among_outward M e sets u a c ends h l us chain rising (have u (l ∷ us) around) n x w ∙ and_left (any_own M e n (l ∷ us)) _ j) in
              absurd (false≢true (ap not (sym k) ∙ and_right (any_own M e n (l ∷ us)) _ j))

          second : ((is_holder M e p n ps && not (is_holder M e u n (l ∷ us))) && any_own M e n (l ∷ us)) && B n ≡ true → (member_at M e u l ≡ member_at M e p l → ⊥) × (B (member_at M e p l) ≡ true)
          second i =
              let set = and_right ((is_holder M e p n ps && not (is_holder M e u n (l ∷ us))) && any_own M e n (l ∷ us)) _ i in
              let j = and_left ((is_holder M e p n ps && not (is_holder M e u n (l ∷ us))) && any_own M e n (l ∷ us)) _ i in
              let own = and_right (is_holder M e p n ps && not (is_holder M e u n (l ∷ us))) _ j in
              let k = and_left (is_holder M e p n ps && not (is_holder M e u n (l ∷ us))) _ j in
              let hold = and_left (is_holder M e p n ps) _ k in
              let not_u = and_right (is_holder M e p n ps) _ k in
              or_cases (is_own M e l.number n) (any_own M e n us) (here set hold not_u) (farther hold not_u) own
            where
              here : B n ≡ true → is_holder M e p n ps ≡ true → not (is_holder M e u n (l ∷ us)) ≡ true → is_own M e l.number n ≡ true → (member_at M e u l ≡ member_at M e p l → ⊥) × (B (member_at M e p l) ≡ true)
              here set hold not_u own =
                  let z = (holder_meets M e sets g p l around.0.0 ps p_kept p_around n (own_group M e l kept n own) hold).1 in
                  (λ v. false≢true (ap not (sym (or_left _ (eq-eqb n (member_at M e u l) (z ∙ sym v)))) ∙ not_u), ap B (sym z) ∙ set)

              farther : is_holder M e p n ps ≡ true → not (is_holder M e u n (l ∷ us)) ≡ true → any_own M e n us ≡ true → (member_at M e u l ≡ member_at M e p l → ⊥) × (B (member_at M e p l) ≡ true)
              farther hold not_u own =
                  let z = own_above M e sets u l.number c us outer_kept rising.1 n own in
                  let v = holds_inner M e sets g p l around.0.0 0 d true y ps p_chain p_rising (have p ps p_around) same n x w z hold in
                  absurd (false≢true (ap not (sym (or_right (eqb n (member_at M e u l)) (sym (holds_outward M e sets u a c ends h l us chain rising (have u (l ∷ us) around) n x w) ∙ v))) ∙ not_u))

      -- And it does.
      is_bad : (member_at M e u l ≡ member_at M e p l → ⊥) → B (member_at M e p l) ≡ true → bad_in (l ∷ us) (member_at M e p l) ≡ true
      is_bad n t =
          let m = member_at M e p l in
          let x : eqb m (member_at M e u l) ≡ false = ne_eqb m (member_at M e u l) (λ z. n (sym z)) in
          let w : is_holder M e u m us ≡ false = not_true (is_holder M e u m us) (λ i. omega (arith, member_group M e l kept p both, holder_above M e sets u l.number c us outer_kept rising.1 (have u (l ∷ us) around).1 m i)) in
          or_right (((any_own M e m (l ∷ us) && not (any_own M e m ps)) && is_needed M e m) && not (B m)) (rw (member_inner M e sets g p l around.0.0 ps same, x, w, member_own M e l kept p both, t))

      good_l : GoodM l.members
      good_l = level_good g 0 l around.0.0 good

      within_none : ((n : ℕ) → 1 ≤ n → n < POSITIONS → bad_in (l ∷ us) n ≡ false) → within l.members u S p ≡ true
      within_none f = go (ℕ_discrete (member_at M e u l) (member_at M e p l))
        where
          go : Dec (member_at M e u l ≡ member_at M e p l) → within l.members u S p ≡ true
          go (yes z) = within_same M begun level e S l good_l marked u p around.0.1 both z
          go (no z) =
              within_other M begun level e S l good_l marked u p around.0.1 both z
              ∙ ap not (not_true (B (member_at M e p l)) (λ t. let s = member_small M e l kept p both in false≢true (sym (f (member_at M e p l) s.0 (omega arith)) ∙ is_bad z t)))

      none_within : within l.members u S p ≡ true → (n : ℕ) → 1 ≤ n → n < POSITIONS → bad_in (l ∷ us) n ≡ false
      none_within t n x w = not_true (bad_in (l ∷ us) n) (λ i. let (o, q) = bad_is n x w i in false≢true (ap not (sym q) ∙ sym (within_other M begun level e S l good_l marked u p around.0.1 both o) ∙ t))

  -- The place p may come next exactly if no member forbids it.
  may_none : (a c : ℕ) (ends : Bool) (h : ℕ) (us : List Level) → Chain M e u ends h us → Rising a c us → EachLevel (IsAround g 0 u) us → AllMarked begun level M e S us → ((n : ℕ) → 1 ≤ n → n < POSITIONS → bad_in us n ≡ false) → may_in (groups_of us) u S p ≡ true
  may_none a c ends h [] chain rising around marked f = refl
  may_none a c ends h (l ∷ us) chain rising around marked f =
      bool_cases (has_m l.members p)
      (λ z. rw z (within_none a c ends h l us chain rising around marked.0 z f))
      (λ z. may_apart a c ends h l us chain rising around marked.0 z f (may_none l.number c _ _ us chain.4 rising.1 around.1 marked.1))

  none_may : (a c : ℕ) (ends : Bool) (h : ℕ) (us : List Level) → Chain M e u ends h us → Rising a c us → EachLevel (IsAround g 0 u) us → AllMarked begun level M e S us → may_in (groups_of us) u S p ≡ true → (n : ℕ) → 1 ≤ n → n < POSITIONS → bad_in us n ≡ false
  none_may a c ends h [] chain rising around marked t = λ n x w. none_and (is_holder M e p n ps && true) (B n)
  none_may a c ends h (l ∷ us) chain rising around marked t =
      bool_cases (has_m l.members p)
      (λ z. none_within a c ends h l us chain rising around marked.0 z (rw z at t))
      (λ z. apart_may a c ends h l us chain rising around marked.0 z t (none_may l.number c _ _ us chain.4 rising.1 around.1 marked.1))

-- This is read of the sets.

-- The first of the groups around a place is that of the member that holds it.
module _ (M : List ℕ) (e : ℕ) (sets : AllSets M e) (v c : ℕ) (ends : Bool) (z : ℕ) where
  module _ (h n : ℕ) (some : 1 ≤ h) (at : n ≡ group_at M e h) where
    set_of : (ks : List Level) → h ≡ z % ENDING → Chain M e v ends z ks → Rising 0 c ks → EachLevel (λ (k : Level). has_m k.members v ≡ true) ks → (m : ℕ) → 1 ≤ m → m < POSITIONS → (among_at M e n m ≡ any_own M e m ks) × (holds_at M e n m || eqb m h ≡ is_holder M e v m ks)
    set_of [] read chain rising have m x y = absurd (omega (arith, ap (λ (q : ℕ). q % ENDING) chain))
    set_of (k ∷ ks) read chain rising have m x y =
        let f = first_of M e h v ends z k ks read chain have.0 in
        let is : n ≡ k.number = at ∙ f.group in (
          ap (λ (q : ℕ). among_at M e q m) is ∙ among_outward M e sets v 0 c ends z k ks chain rising have m x y,
          ap (λ (q : ℕ). holds_at M e q m || eqb m h) is ∙ ap (λ (t : Bool). t || eqb m h) (holds_outward M e sets v 0 c ends z k ks chain rising have m x y) ∙ or_comm (is_holder M e v m ks) (eqb m h) ∙ ap (λ (q : ℕ). eqb m q || is_holder M e v m ks) f.is,
        )

  -- There is a first one, where there is such a member.
  first_there : (h : ℕ) → 1 ≤ h → (ks : List Level) → h ≡ z % ENDING → Chain M e v ends z ks → EachLevel (λ (k : Level). has_m k.members v ≡ true) ks → (k : Level) × First M e h v k
  first_there h some [] read chain have = absurd (omega (arith, ap (λ (q : ℕ). q % ENDING) chain))
  first_there h some (k ∷ ks) read chain have = (k, first_of M e h v ends z k ks read chain have.0)

bad_same : (a a' p p' k t q q' o o' : Bool) → a ≡ a' → p ≡ p' → q ≡ q' → o ≡ o' → (((a && not p) && k) && not t) || (((q && not o) && a) && t) ≡ (((a' && not p') && k) && not t) || (((q' && not o') && a') && t)
bad_same a a' p p' k t q q' o o' w x y z = rw (w, x, y, z)

module _ (M : List ℕ) (e h i : ℕ) (b : Bits) where
  u_have : (w : Pair M e h i b) → EachLevel (λ (l : Level). has_m l.members w.u ≡ true) w.us
  u_have w = each_level (IsAround w.model 0 w.u) (λ (l : Level). has_m l.members w.u ≡ true) (λ l a. a.1) w.us w.u_around

  p_have : (w : Pair M e h i b) → EachLevel (λ (l : Level). has_m l.members w.p ≡ true) (levels w.model 0 w.p)
  p_have w = each_level (IsAround w.model 0 w.p) (λ (l : Level). has_m l.members w.p ≡ true) (λ l a. a.1) (levels w.model 0 w.p) w.p_around

  abbrev forbids : Pair M e h i b → ℕ → Bool
  forbids w = bad_in M e w.sets w.begun w.level w.model w.good w.u w.p w.S w.y w.d w.p_chain w.p_rising w.p_around w.us

  -- The answer, by a test that says whether a member forbids p.
  comes_by : (r : Bool) (f : Pair M e h i b → ℕ → Bool) → ((w : Pair M e h i b) (m : ℕ) → 1 ≤ m → m < POSITIONS → forbids w m ≡ f w m) → (r ≡ true → (w : Pair M e h i b) (m : ℕ) → 1 ≤ m → m < POSITIONS → f w m ≡ false) → (r ≡ false → (w : Pair M e h i b) → (m : ℕ) × (1 ≤ m) × (m < POSITIONS) × (f w m ≡ true)) → Comes M e h i b r
  comes_by true f same none some = record { says = λ w. sym (may_none M e w.sets w.begun w.level w.model w.good w.u w.p w.S w.y w.d w.p_chain w.p_rising w.p_around 0 w.c true w.x w.us w.u_chain w.u_rising w.u_around w.marked (λ m x y. same w m x y ∙ none refl w m x y)) }
  comes_by false f same none some =
      record {
        says = λ w.
            sym (not_true (may_in (groups_of w.us) w.u w.S w.p)
            (λ t.
            let (m, x, y, z) = some refl w in
            false≢true (sym (none_may M e w.sets w.begun w.level w.model w.good w.u w.p w.S w.y w.d w.p_chain w.p_rising w.p_around 0 w.c true w.x w.us w.u_chain w.u_rising w.u_around w.marked t m x y) ∙ same w m x y ∙ z)));
      }

  module _ (some : 1 ≤ h) (n : ℕ) (at_n : n ≡ group_at M e h) where
    u_sets : (w : Pair M e h i b) (m : ℕ) → 1 ≤ m → m < POSITIONS → (among_at M e n m ≡ any_own M e m w.us) × (holds_at M e n m || eqb m h ≡ is_holder M e w.u m w.us)
    u_sets w = set_of M e w.sets w.u w.c true w.x h n some at_n w.us w.u_read w.u_chain w.u_rising (u_have w)

    u_first : (w : Pair M e h i b) → (l : Level) × First M e h w.u l
    u_first w = first_there M e w.sets w.u w.c true w.x h some w.us w.u_read w.u_chain (u_have w)

    pub comes_far : AND_GROUPS < n → (r : Bool) → Comes M e h i b r
    comes_far z r = record { says = λ w. let (l, f) = u_first w in absurd (omega (arith, f.within)) }

    -- The place p is in no group.
    pub comes_full : i ≡ 0 → (r : Bool) → IsFull M e n b r → Comes M e h i b r
    comes_full z r full = comes_by r (λ w m. (among_at M e n m && is_needed M e m) && not (begun_at w.begun w.level m)) same (λ t w. full.none t (begun_at w.begun w.level) w.has) (λ t w. full.some t (begun_at w.begun w.level) w.has)
      where
        same : (w : Pair M e h i b) (m : ℕ) → 1 ≤ m → m < POSITIONS → forbids w m ≡ (among_at M e n m && is_needed M e m) && not (begun_at w.begun w.level m)
        same w m x y =
            let empty = chain_none M e w.p true w.y (levels w.model 0 w.p) w.p_chain (p_have w) (sym w.p_read ∙ z) in
            go (levels w.model 0 w.p) empty
          where
            go : (ps : List Level) → ps ≡ [] → bad (λ (q : ℕ). any_own M e q w.us) (λ (q : ℕ). any_own M e q ps) (is_needed M e) (begun_at w.begun w.level) (λ (q : ℕ). is_holder M e w.p q ps) (λ (q : ℕ). is_holder M e w.u q w.us) m ≡ (among_at M e n m && is_needed M e m) && not (begun_at w.begun w.level m)
            go ps none = rw (none, sym (u_sets w m x y).0) (first (among_at M e n m) (is_needed M e m) (begun_at w.begun w.level m) (is_holder M e w.u m w.us))
              where
                first : (a k t o : Bool) → (((a && true) && k) && not t) || (((false && not o) && a) && t) ≡ (a && k) && not t
                first true true true o = refl
                first true true false o = refl
                first true false t o = refl
                first false k t o = refl

    -- The place p is in a group.
    module _ (inner : 1 ≤ i) (q : ℕ) (at_q : q ≡ group_at M e i) where
      p_sets : (w : Pair M e h i b) (m : ℕ) → 1 ≤ m → m < POSITIONS → (among_at M e q m ≡ any_own M e m (levels w.model 0 w.p)) × (holds_at M e q m || eqb m i ≡ is_holder M e w.p m (levels w.model 0 w.p))
      p_sets w = set_of M e w.sets w.p w.d true w.y i q inner at_q (levels w.model 0 w.p) w.p_read w.p_chain w.p_rising (p_have w)

      pub comes_beside : AND_GROUPS < q → (r : Bool) → Comes M e h i b r
      comes_beside z r = record { says = λ w. let (k, f) = first_there M e w.sets w.p w.d true w.y i inner (levels w.model 0 w.p) w.p_read w.p_chain (p_have w) in absurd (omega (arith, f.within)) }

      pub comes_left : (r : Bool) → IsLeft M e h n i q b r → Comes M e h i b r
      comes_left r left =
          comes_by r
          (λ w. bad (among_at M e n) (among_at M e q) (is_needed M e) (begun_at w.begun w.level) (λ (x : ℕ). holds_at M e q x || eqb x i) (λ (x : ℕ). holds_at M e n x || eqb x h))
          (λ w m x y. bad_same _ _ _ _ (is_needed M e m) (begun_at w.begun w.level m) _ _ _ _ (sym (u_sets w m x y).0) (sym (p_sets w m x y).0) (sym (p_sets w m x y).1) (sym (u_sets w m x y).1))
          (λ t w. left.none t (begun_at w.begun w.level) w.has)
          (λ t w. left.some t (begun_at w.begun w.level) w.has)

      -- Both are in one group: in one member, or in two.
      module _ (same : q ≡ n) where
        meet : (w : Pair M e h i b) → (l : Level) × IsAround w.model 0 w.u l × (has_m l.members w.p ≡ true) × Marked w.begun w.level M e w.S l × (h ≡ member_at M e w.u l) × (i ≡ member_at M e w.p l) × (may_in (groups_of w.us) w.u w.S w.p ≡ within l.members w.u w.S w.p)
        meet w = go w.us (levels w.model 0 w.p) w.u_chain w.p_chain w.u_around w.p_around w.marked
          where
            go : (us ps : List Level) → Chain M e w.u true w.x us → Chain M e w.p true w.y ps → EachLevel (IsAround w.model 0 w.u) us → EachLevel (IsAround w.model 0 w.p) ps → AllMarked w.begun w.level M e w.S us → (l : Level) × IsAround w.model 0 w.u l × (has_m l.members w.p ≡ true) × Marked w.begun w.level M e w.S l × (h ≡ member_at M e w.u l) × (i ≡ member_at M e w.p l) × (may_in (groups_of us) w.u w.S w.p ≡ within l.members w.u w.S w.p)
            go [] ps u_chain p_chain u_around p_around marked = absurd (omega (arith, w.u_read ∙ ap (λ (v : ℕ). v % ENDING) u_chain))
            go (l ∷ us) [] u_chain p_chain u_around p_around marked = absurd (omega (arith, w.p_read ∙ ap (λ (v : ℕ). v % ENDING) p_chain))
            go (l ∷ us) (k ∷ ks) u_chain p_chain u_around p_around marked =
                let f = first_of M e h w.u true w.x l us w.u_read u_chain u_around.0.1 in
                let d = first_of M e i w.p true w.y k ks w.p_read p_chain p_around.0.1 in
                let number : l.number ≡ k.number = sym f.group ∙ sym at_n ∙ sym same ∙ at_q ∙ d.group in
                let members : l.members ≡ k.members = level_once w.model 0 l k u_around.0.0 p_around.0.0 number in
                let both : has_m l.members w.p ≡ true = subst (λ (m : Members). has_m m w.p ≡ true) (sym members) p_around.0.1 in
                (l, u_around.0, both, marked.0, f.is, d.is ∙ sym (ap (λ (v : ℕ). number_in (first_at M e v) (needs l.members) l.members w.p) number ∙ ap (λ (m : Members). number_in (first_at M e k.number) (needs m) m w.p) members), rw both)

        pub comes_one : h ≡ i → Comes M e h i b true
        comes_one z = record { says = λ w. let (l, a, both, marked, x, y, t) = meet w in sym (t ∙ within_same M w.begun w.level e w.S l (level_good w.model 0 l a.0 w.good) marked w.u w.p a.1 both (sym x ∙ z ∙ y)) }

        pub comes_other : (h ≡ i → ⊥) → (r : Bool) → ((f : ℕ → Bool) → Has b f → r ≡ f i) → Comes M e h i b (not r)
        comes_other z r says =
            record {
              says = λ w.
                  let (l, a, both, marked, x, y, t) = meet w in
                  ap not (says (begun_at w.begun w.level) w.has ∙ ap (begun_at w.begun w.level) y)
                  ∙ sym (t ∙ within_other M w.begun w.level e w.S l (level_good w.model 0 l a.0 w.good) marked w.u w.p a.1 both (λ v. z (x ∙ v ∙ sym y)));
            }

-- The member that holds a place is one of the table's.
holder_few : (M : List ℕ) (e v h : ℕ) → h ≡ holder_at M e v % ENDING → (g : Group) → Told M e g → has g v ≡ true → h ≤ GRPGTCNT
holder_few M e v h at g told here = go (levels g 0 v) (told.places v here) (levels_are g 0 v here)
  where
    go : (ls : List Level) → Chain M e v true (holder_at M e v) ls → EachLevel (IsAround g 0 v) ls → h ≤ GRPGTCNT
    go [] chain around = omega (arith, at ∙ ap (λ (x : ℕ). x % ENDING) chain)
    go (l ∷ ls) chain around = (first_of M e h v true (holder_at M e v) l ls at chain around.0.1).small.1

-- The numbers at the places lead to their groups.
module _ (M begun : List ℕ) (level e u p h i : ℕ) (at_h : h ≡ holder_at M e u % ENDING) (at_i : i ≡ holder_at M e p % ENDING) where
  -- The last place is in no group.
  pub follows_none : h ≡ 0 → Follows M level e u p begun true
  follows_none z g numbered guarded told taken stands has_u has_p = go u refl
    where
      go : (v : ℕ) → u ≡ v → true ≡ may_in (groups_at g v) u (mem taken) p
      go zero q = refl
      go (suc v) q =
          let here : has g (suc v) ≡ true = subst (λ (x : ℕ). has g x ≡ true) q (has_u (omega arith)) in
          let empty = chain_none M e (suc v) true (holder_at M e (suc v)) (levels g 0 (suc v)) (told.places (suc v) here) (each_level (IsAround g 0 (suc v)) (λ (l : Level). has_m l.members (suc v) ≡ true) (λ l a. a.1) (levels g 0 (suc v)) (levels_are g 0 (suc v) here)) (ap (λ (x : ℕ). holder_at M e x % ENDING) (sym q) ∙ sym at_h ∙ z) in
          ap (λ (ls : List Level). may_in (groups_of ls) u (mem taken) p) (sym empty) ∙ ap (λ (ms : List Members). may_in ms u (mem taken) p) (levels_around g 0 (suc v))

  module _ (some : 1 ≤ h) where
    -- There is a last place, and it is in a group.
    pair_of : (b : Bits) → Has b (begun_at begun level) → (g : Group) → Numbered g 1 → Guarded g → Told M e g → (taken : List ℕ) → Standing begun level M e g u taken → (1 ≤ u → has g u ≡ true) → has g p ≡ true → (w : Pair M e h i b) × (may_in (groups_of w.us) w.u w.S w.p ≡ may_in (groups_at g u) u (mem taken) p)
    pair_of b says g numbered guarded told taken stands has_u has_p = go u refl
      where
        go : (v : ℕ) → u ≡ v → (w : Pair M e h i b) × (may_in (groups_of w.us) w.u w.S w.p ≡ may_in (groups_at g v) u (mem taken) p)
        go zero q = absurd (omega (arith, at_h ∙ ap (λ (x : ℕ). holder_at M e x % ENDING) q ∙ ap (λ (x : ℕ). x % ENDING) told.start))
        go (suc v) q =
            let here : has g u ≡ true = has_u (omega arith) in (
              record {
                sets = told.sets;
                begun = begun;
                level = level;
                has = says;
                model = g;
                good = numbered_good g 1 numbered guarded;
                u = u;
                p = p;
                S = mem taken;
                x = holder_at M e u;
                y = holder_at M e p;
                c = 0 + count g;
                d = 0 + count g;
                us = levels g 0 u;
                u_read = at_h;
                p_read = at_i;
                u_chain = told.places u here;
                p_chain = told.places p has_p;
                u_rising = levels_rise g 0 u;
                p_rising = levels_rise g 0 p;
                u_around = levels_are g 0 u here;
                p_around = levels_are g 0 p has_p;
                marked = stands.marked (omega arith) u here;
              },
              ap (λ (ms : List Members). may_in ms u (mem taken) p) (levels_around g 0 u ∙ ap (around g) q),
            )

    pub follows_by : (b : Bits) → Has b (begun_at begun level) → (r : Bool) → Comes M e h i b r → Follows M level e u p begun r
    follows_by b says r comes g numbered guarded told taken stands has_u has_p = let (w, t) = pair_of b says g numbered guarded told taken stands has_u has_p in comes.says w ∙ t

    -- The holders are members of the table.
    pub follows_large : GRPGTCNT < h → Follows M level e u p begun true
    follows_large z g numbered guarded told taken stands has_u has_p = go u refl
      where
        go : (v : ℕ) → u ≡ v → true ≡ may_in (groups_at g v) u (mem taken) p
        go zero q = refl
        go (suc v) q = absurd (omega (arith, holder_few M e u h at_h g told (has_u (omega arith))))

    pub follows_beside : GRPGTCNT < i → Follows M level e u p begun true
    follows_beside z g numbered guarded told taken stands has_u has_p = absurd (omega (arith, holder_few M e p i at_i g told has_p))

-- A table that is not whole tells no group.
pub follows_short : (M : List ℕ) (level e u p : ℕ) (begun : List ℕ) → length M < MEMBERS → Follows M level e u p begun true
follows_short M level e zero p begun short g numbered guarded told taken stands has_u has_p = refl
follows_short M level e (suc v) p begun short g numbered guarded told taken stands has_u has_p =
    let here = has_u (omega arith) in
    ap (λ (ls : List Level). may_in (groups_of ls) (suc v) (mem taken) p) (sym (short_none M e g short told (suc v) here)) ∙ ap (λ (ms : List Members). may_in ms (suc v) (mem taken) p) (levels_around g 0 (suc v))
