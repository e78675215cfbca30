-- The groups around a place as the table has them: the number of the member that holds the place in each, and whether its bit is set.
use Rattle.std.specs.Prelude.{ℕ, ◌%◌, ◌≤◌, ◌≡◌, refl, Bool, true, false, ◌||◌, ◌&&◌, List, [], ◌∷◌, ◌++◌, eqb}
use Rattle.std.proofs.Common.{sym, ◌∙◌, ap, subst, inl, inr, arith, eqb-true, eq-eqb}
use Rattle.std.proofs.lemmas.Bool.{false≢true}
use Rattle.rules.specs.Walk.{Group, Members}
use Rattle.rules.specs.Bytes.{GRPGTCNT}
use Rattle.layout.specs.Sizes.{ENDING}
use Rattle.basic_laws.specs.Truth.{or_left, or_right, or_cases, not_true}
use Rattle.model_sets.specs.Sets.{has, has_m, last_m, required_first}
use Rattle.and_laws.specs.Base.{mem, mem_left, mem_right, mem_cases, mem_head}
use Rattle.and_laws.specs.Sets.{meets, Good, meets_common, common_meets}
use Rattle.and_laws.specs.Ranked.{Level, levels}
use Rattle.member_laws.specs.Members.{needs, number_in, Each, group_at, due_at, first_at, outer_at, Grouped, Chain, begun_at, Marked, AllMarked}
use Rattle.member_laws.specs.Numbered.{both_tests, amount_both, IsNumbered, each_at, at_each, numbered_has, place_numbered, numbered_place, numbered_range, numbered_once, Ranged, needed, spare}
use Rattle.member_laws.specs.Inside.{IsLevel, level_once, level_good, level_around, EachLevel, AnyLevel, IsSame, IsAround, levels_are}

module _ (M : List ℕ) (e : ℕ) where
  -- This is the number of the member of the group that holds u.
  abbrev pub member_at : ℕ → Level → ℕ
  member_at u l = number_in (first_at M e l.number) (needs l.members) l.members u

  -- The number n is that of such a member.
  abbrev pub is_holder : ℕ → ℕ → List Level → Bool
  is_holder u n [] = false
  is_holder u n (l ∷ ls) = eqb n (member_at u l) || is_holder u n ls

  -- The member k of the group has the number n.
  abbrev pub NumberedAt : Level → ℕ → Group → Type 0
  NumberedAt l n k = IsNumbered (first_at M e l.number) (needs l.members) l.members n k

  pub record Held (u : ℕ) (l : Level) : Type 0 where
    pub member : Group
    pub numbered : NumberedAt l (member_at u l) member
    pub holds : has member u ≡ true

  pub held : (u : ℕ) (l : Level) → has_m l.members u ≡ true → Held u l
  held u l i = let (k, x, y) = place_numbered (first_at M e l.number) (needs l.members) l.members u i in record { member = k; numbered = x; holds = y }

  module _ (l : Level) (kept : Grouped M e l) where
    pub numbered_group : (n : ℕ) (k : Group) → NumberedAt l n k → group_at M e n ≡ l.number
    numbered_group n k i = (each_at _ _ (λ (n : ℕ) (g : Group). (group_at M e n ≡ l.number) × (due_at M e n ≡ required_first g)) l.members kept.members n k i).0

    pub numbered_small : (n : ℕ) (k : Group) → NumberedAt l n k → (1 ≤ n) × (n ≤ GRPGTCNT)
    numbered_small n k i = go (numbered_range _ _ l.members n k i)
      where
        go : Ranged (first_at M e l.number) (needs l.members) l.members n k → (1 ≤ n) × (n ≤ GRPGTCNT)
        go (needed a b c) = omega (arith, amount_both l.members, kept.some, kept.room)
        go (spare a b c) = omega (arith, amount_both l.members, kept.some, kept.room)

    pub numbered_due : Each (λ (n : ℕ) (g : Group). due_at M e n ≡ required_first g) (first_at M e l.number) (needs l.members) l.members
    numbered_due = at_each _ _ (λ (n : ℕ) (g : Group). due_at M e n ≡ required_first g) l.members (λ n k i. (each_at _ _ (λ (n : ℕ) (g : Group). (group_at M e n ≡ l.number) × (due_at M e n ≡ required_first g)) l.members kept.members n k i).1)

    module _ (u : ℕ) (i : has_m l.members u ≡ true) where
      pub member_group : group_at M e (member_at u l) ≡ l.number
      member_group = let h = held u l i in numbered_group (member_at u l) h.member h.numbered

      pub member_small : (1 ≤ member_at u l) × (member_at u l ≤ GRPGTCNT)
      member_small = let h = held u l i in numbered_small (member_at u l) h.member h.numbered

  -- A chain has what the table keeps of its groups.

  pub chain_kept : (u : ℕ) (ends : Bool) (h : ℕ) (ls : List Level) → Chain M e u ends h ls → EachLevel (Grouped M e) ls
  chain_kept u ends h [] c = refl
  chain_kept u ends h (l ∷ ls) (k, f, x, y, c) = (k, chain_kept u (ends && last_m l.members u) (outer_at M e l.number) ls c)

  -- The holder is none, or the member of the first group, with `ENDING` more where it can end.
  pub chain_none : (u : ℕ) (ends : Bool) (h : ℕ) (ls : List Level) → Chain M e u ends h ls → EachLevel (λ (l : Level). has_m l.members u ≡ true) ls → h % ENDING ≡ 0 → ls ≡ []
  chain_none u ends h [] c i z = refl
  chain_none u ends h (l ∷ ls) (k, true, x, y, c) (i, j) z = absurd (omega (arith, member_small l k u i))
  chain_none u ends h (l ∷ ls) (k, false, x, y, c) (i, j) z = absurd (omega (arith, member_small l k u i))

  pub chain_first : (u : ℕ) (ends : Bool) (h : ℕ) (l : Level) (ls : List Level) → Chain M e u ends h (l ∷ ls) → has_m l.members u ≡ true → h % ENDING ≡ member_at u l
  chain_first u ends h l ls (k, true, x, y, c) i = omega (arith, member_small l k u i)
  chain_first u ends h l ls (k, false, x, y, c) i = omega (arith, member_small l k u i)

  -- The bits of the members around u say which of them have begun.

  pub any_holder : (u n : ℕ) (ls : List Level) → AnyLevel (λ (k : Level). n ≡ member_at u k) ls → is_holder u n ls ≡ true
  any_holder u n [] x = absurd x
  any_holder u n (l ∷ ls) (inl x) = or_left _ (eq-eqb n (member_at u l) x)
  any_holder u n (l ∷ ls) (inr x) = or_right (eqb n (member_at u l)) (any_holder u n ls x)

  module _ (begun : List ℕ) (level : ℕ) (S : ℕ → Bool) where
    pub marked_each : (ls : List Level) → AllMarked begun level M e S ls → EachLevel (Marked begun level M e S) ls
    marked_each [] x = refl
    marked_each (l ∷ ls) (x, y) = (x, marked_each ls y)

    -- The number of a member that has a place has its bit set exactly if a place of it was taken.
    pub member_begun : (l : Level) → Marked begun level M e S l → (u : ℕ) → (i : has_m l.members u ≡ true) → begun_at begun level (member_at u l) ≡ meets (held u l i).member S
    member_begun l marked u i = each_at _ _ (λ (n : ℕ) (g : Group). begun_at begun level n ≡ meets g S) l.members marked (member_at u l) (held u l i).member (held u l i).numbered

  -- One place more is taken.

  -- Of all members the one that has p is the one whose number holds it.
  module _ (g : Group) (d : Good g) (p : ℕ) (has_p : has g p ≡ true) (kept : EachLevel (Grouped M e) (levels g 0 p)) where
    holder_holds : (l : Level) → IsLevel g 0 l → Grouped M e l → (n : ℕ) (k : Group) → NumberedAt l n k → (ls : List Level) → EachLevel (IsAround g 0 p) ls → EachLevel (Grouped M e) ls → is_holder p n ls ≡ true → has k p ≡ true
    holder_holds l i c n k j [] a b h = absurd (false≢true h)
    holder_holds l i c n k j (x ∷ ls) ((y, z), a) (v, w) h = or_cases (eqb n (member_at p x)) (is_holder p n ls) (λ f. same (eqb-true n (member_at p x) f)) (holder_holds l i c n k j ls a w) h
      where
        one_group : n ≡ member_at p x → l.number ≡ x.number
        one_group f = sym (numbered_group l c n k j) ∙ ap (group_at M e) f ∙ member_group x v p z

        same : n ≡ member_at p x → has k p ≡ true
        same f =
            let o = one_group f in
            let m = level_once g 0 l x i y o in
            let t = held p x z in
            let r : NumberedAt l n t.member = subst (λ (q : ℕ). IsNumbered (first_at M e q) (needs l.members) l.members n t.member) (sym o) (subst (λ (q : Members). IsNumbered (first_at M e x.number) (needs q) q n t.member) (sym m) (subst (λ (q : ℕ). NumberedAt x q t.member) (sym f) t.numbered)) in
            subst (λ (q : Group). has q p ≡ true) (numbered_once (first_at M e l.number) (needs l.members) l.members (omega arith) n t.member k r j) t.holds

    pub is_holder_lem : (l : Level) → IsLevel g 0 l → Grouped M e l → (n : ℕ) (k : Group) → NumberedAt l n k → is_holder p n (levels g 0 p) ≡ has k p
    is_holder_lem l i c n k j =
        both_tests
        (is_holder p n (levels g 0 p))
        (has k p)
        (holder_holds l i c n k j (levels g 0 p) (levels_are g 0 p has_p) kept)
        (λ h. any_holder p n (levels g 0 p) (any_each (λ x s. number_same x s h) (levels g 0 p) (level_around g 0 l i d p (numbered_has _ _ l.members n k j p h))))
      where
        number_same : (x : Level) → IsSame l x → has k p ≡ true → n ≡ member_at p x
        number_same x (a, b) h =
            sym (numbered_place (first_at M e l.number) (needs l.members) l.members (level_good g 0 l i d) n k j p h)
            ∙ ap (λ (q : ℕ). number_in (first_at M e q) (needs l.members) l.members p) (sym a)
            ∙ ap (λ (q : Members). number_in (first_at M e x.number) (needs q) q p) (sym b)

        any_each : {P Q : Level → Type 0} → ((x : Level) → P x → Q x) → (ls : List Level) → AnyLevel P ls → AnyLevel Q ls
        any_each f [] y = absurd y
        any_each f (x ∷ ls) (inl y) = inl (f x y)
        any_each f (x ∷ ls) (inr y) = inr (any_each f ls y)

-- A member is met by one place more exactly if it was met before or has that place.
pub meets_more : (k : Group) (s : List ℕ) (p : ℕ) → meets k (mem (s ++ p ∷ [])) ≡ meets k (mem s) || has k p
meets_more k s p =
    both_tests
    (meets k (mem (s ++ p ∷ [])))
    (meets k (mem s) || has k p)
    (λ x. let (q, h, i) = meets_common k (mem (s ++ p ∷ [])) x in mem_cases s (p ∷ []) q (λ y. or_left _ (common_meets k (mem s) q h y)) (last q h) i)
    (or_cases
    (meets k (mem s))
    (has k p)
    (λ x. let (q, h, i) = meets_common k (mem s) x in common_meets k (mem (s ++ p ∷ [])) q h (mem_left s (p ∷ []) q i))
    (λ h. common_meets k (mem (s ++ p ∷ [])) p h (mem_right s (p ∷ []) p (mem_head p []))))
  where
    last : (q : ℕ) → has k q ≡ true → mem (p ∷ []) q ≡ true → meets k (mem s) || has k p ≡ true
    last q h i = or_right (meets k (mem s)) (or_cases (eqb p q) false (λ x. subst (λ (z : ℕ). has k z ≡ true) (sym (eqb-true p q x)) h) (λ y. absurd (false≢true y)) i)

pub meets_none : (k : Group) → meets k (mem []) ≡ false
meets_none k = not_true (meets k (mem [])) (λ x. let (q, h, i) = meets_common k (mem []) x in false≢true i)
