-- The sets of the groups around a place: who holds them, which members they have, which of these must come, and how far out they can end.
use Rattle.std.specs.Prelude.{ℕ, ◌+◌, ◌-◌, ◌%◌, ◌≤◌, ◌<◌, ◌≡◌, Bool, true, false, ◌||◌, ◌⊎◌, List, [], ◌∷◌, length, eqb, leb, ltb}
use Rattle.std.proofs.Common.{sym, ◌∙◌, ap, subst, inl, inr, arith, eqb-true, lt-ltb, le-leb, ltb-true, leb-true}
use Rattle.std.proofs.lemmas.Bool.{false≢true}
use Rattle.std.proofs.Math.Bool.{or-false}
use Rattle.rules.specs.Walk.{Group}
use Rattle.rules.specs.Bytes.{GRPGTCNT}
use Rattle.layout.specs.Sizes.{POSITIONS, AND_GROUPS, MEMBERS, ENDING}
use Rattle.basic_laws.specs.Truth.{and_both, and_left, and_right, or_cases}
use Rattle.model_sets.specs.Sets.{has, has_m, amount}
use Rattle.and_laws.specs.Rest.{all_m}
use Rattle.and_laws.specs.Rows.{fine}
use Rattle.and_laws.specs.Ranked.{Level, levels, Rising}
use Rattle.member_laws.specs.Members.{needs, group_at, due_at, first_at, needed_at, size_at, outer_at, is_needed, holds_at, among_at, is_own, Outermost, Within, AllSets, Grouped, Chain, Told, begun_at, Marked}
use Rattle.member_laws.specs.Numbered.{amount_both, mem_numbered, range_numbers, numbered_range, Ranged, needed, spare, none_lacks, lacks_none}
use Rattle.member_laws.specs.Inside.{EachLevel}
use Rattle.member_laws.specs.Around.{member_at, is_holder, held, numbered_group, numbered_due, member_group, member_small, chain_first}

module _ (M : List ℕ) (e : ℕ) where
  -- The member n is one of these groups'.
  abbrev pub any_own : ℕ → List Level → Bool
  any_own n [] = false
  any_own n (l ∷ ls) = is_own M e l.number n || any_own n ls

  -- These laws are of one group.
  module _ (l : Level) (kept : Grouped M e l) where
    pub own_range : (n : ℕ) → is_own M e l.number n ≡ true → (first_at M e l.number ≤ n) × (n < first_at M e l.number + amount l.members)
    own_range n i = (leb-true (first_at M e l.number) n (and_left (leb (first_at M e l.number) n) _ i), omega (arith, kept.size, ltb-true n (first_at M e l.number + size_at M e l.number) (and_right (leb (first_at M e l.number) n) _ i)))

    pub range_own : (n : ℕ) → first_at M e l.number ≤ n → n < first_at M e l.number + amount l.members → is_own M e l.number n ≡ true
    range_own n a b = and_both (le-leb (first_at M e l.number) n a) (lt-ltb n (first_at M e l.number + size_at M e l.number) (omega (arith, kept.size)))

    pub own_group : (n : ℕ) → is_own M e l.number n ≡ true → group_at M e n ≡ l.number
    own_group n i =
        let (a, b) = own_range n i in
        let (k, j) = mem_numbered (first_at M e l.number) (needs l.members) l.members n (range_numbers (first_at M e l.number) l.members n a b) in
        numbered_group M e l kept n k j

    pub member_own : (u : ℕ) → has_m l.members u ≡ true → is_own M e l.number (member_at M e u l) ≡ true
    member_own u i = let h = held M e u l i in go (numbered_range (first_at M e l.number) (needs l.members) l.members (member_at M e u l) h.member h.numbered)
      where
        go : {k : _} → Ranged (first_at M e l.number) (needs l.members) l.members (member_at M e u l) k → is_own M e l.number (member_at M e u l) ≡ true
        go (needed a b c) = range_own (member_at M e u l) b (omega (arith, amount_both l.members))
        go (spare a b c) = range_own (member_at M e u l) (omega arith) (omega (arith, amount_both l.members))

    -- Those that cannot be nothing are numbered first.
    pub needed_own : AllSets M e → (n : ℕ) → is_own M e l.number n ≡ true → is_needed M e n ≡ ltb n (first_at M e l.number + needs l.members)
    needed_own sets n i =
        let (a, b) = own_range n i in
        let group = own_group n i in
        sets.needed n (omega (arith, kept.some)) (omega (arith, kept.room)) (omega (arith, group, kept.within))
        ∙ ap (λ (g : ℕ). ltb n (first_at M e g + needed_at M e g)) group
        ∙ ap (λ (k : ℕ). ltb n (first_at M e l.number + k)) kept.needed

    -- It lacks nothing exactly if each of its members has begun that cannot be nothing.
    module _ (sets : AllSets M e) (begun : List ℕ) (level : ℕ) (S : ℕ → Bool) (marked : Marked begun level M e S l) where
      pub begun_fine : ((n : ℕ) → is_own M e l.number n ≡ true → is_needed M e n ≡ true → begun_at begun level n ≡ true) → all_m (fine S) l.members ≡ true
      begun_fine f = none_lacks (first_at M e l.number) l.members S (begun_at begun level) (due_at M e) marked (numbered_due M e l kept) (λ j h. let own = range_own (first_at M e l.number + j) (omega arith) (omega (arith, amount_both l.members)) in f (first_at M e l.number + j) own (needed_own sets (first_at M e l.number + j) own ∙ lt-ltb (first_at M e l.number + j) (first_at M e l.number + needs l.members) (omega arith)))

      pub fine_begun : all_m (fine S) l.members ≡ true → (n : ℕ) → is_own M e l.number n ≡ true → is_needed M e n ≡ true → begun_at begun level n ≡ true
      fine_begun all n own required_first =
          let (a, b) = own_range n own in
          let low = ltb-true n (first_at M e l.number + needs l.members) (sym (needed_own sets n own) ∙ required_first) in
          let is : first_at M e l.number + (n - first_at M e l.number) ≡ n = omega arith in
          subst (λ (x : ℕ). begun_at begun level x ≡ true) is (lacks_none (first_at M e l.number) l.members S (begun_at begun level) (due_at M e) marked (numbered_due M e l kept) all (n - first_at M e l.number) (omega arith))

  -- A member of one of these groups is one of the group that the table has for it.
  pub own_its : (ls : List Level) → EachLevel (Grouped M e) ls → (n : ℕ) → any_own n ls ≡ true → is_own M e (group_at M e n) n ≡ true
  own_its [] k n i = absurd (false≢true i)
  own_its (l ∷ ls) (k, ks) n i = or_cases (is_own M e l.number n) (any_own n ls) (λ x. subst (λ (g : ℕ). is_own M e g n ≡ true) (sym (own_group l k n x)) x) (own_its ls ks n) i

  -- The member that holds a place is one of the first group around it.
  pub record First (h u : ℕ) (l : Level) : Type 0 where
    pub is : h ≡ member_at M e u l
    pub small : (1 ≤ h) × (h ≤ GRPGTCNT)
    pub group : group_at M e h ≡ l.number
    pub within : group_at M e h ≤ AND_GROUPS

  pub first_of : (h u : ℕ) (ends : Bool) (x : ℕ) (l : Level) (ls : List Level) → h ≡ x % ENDING → Chain M e u ends x (l ∷ ls) → has_m l.members u ≡ true → First h u l
  first_of h u ends x l ls read chain i =
      let is : h ≡ member_at M e u l = read ∙ chain_first M e u ends x l ls chain i in
      let group : group_at M e h ≡ l.number = ap (group_at M e) is ∙ member_group M e l chain.0 u i in
      record {
        is = is;
        small = omega (arith, member_small M e l chain.0 u i);
        group = group;
        within = omega (arith, chain.0.within);
      }

  -- A table that is not whole tells no member.
  pub short_none : (g : Group) → length M < MEMBERS → Told M e g → (q : ℕ) → has g q ≡ true → levels g 0 q ≡ []
  short_none g short told q i = go (told.whole q i)
    where
      go : (levels g 0 q ≡ []) ⊎ (MEMBERS ≤ length M) → levels g 0 q ≡ []
      go (inl z) = z
      go (inr z) = absurd (omega arith)

  -- These laws are of the groups around a place.
  module _ (sets : AllSets M e) (u : ℕ) where
    abbrev Have : List Level → Type 0
    Have ls = EachLevel (λ (l : Level). has_m l.members u ≡ true) ls

    pub outermost : (l : Level) → Grouped M e l → 1 ≤ l.number → outer_at M e l.number ≡ 0 → Outermost M e l.number
    outermost l kept some z = (sets.around l.number some kept.within kept.some).none (ap (λ (x : ℕ). x % ENDING) z)

    pub within_next : (l : Level) → Grouped M e l → 1 ≤ l.number → (ends : Bool) (k : Level) (ks : List Level) → Chain M e u ends (outer_at M e l.number) (k ∷ ks) → has_m k.members u ≡ true → l.number < k.number → Within M e l.number (member_at M e u k) k.number (ltb ENDING (outer_at M e l.number))
    within_next l kept some ends k ks chain i less =
        let is : outer_at M e l.number % ENDING ≡ member_at M e u k = chain_first M e u ends (outer_at M e l.number) k ks chain i in
        let group : group_at M e (outer_at M e l.number % ENDING) ≡ k.number = ap (group_at M e) is ∙ member_group M e k chain.0 u i in
        subst (λ (g : ℕ). Within M e l.number (member_at M e u k) g (ltb ENDING (outer_at M e l.number))) group
        (subst (λ (h : ℕ). Within M e l.number h (group_at M e (outer_at M e l.number % ENDING)) (ltb ENDING (outer_at M e l.number))) is
        ((sets.around l.number some kept.within kept.some).some (omega (arith, is, member_small M e k chain.0 u i)) (omega (arith, is, member_small M e k chain.0 u i)) (omega (arith, group)) (omega (arith, group, chain.0.within))))

    -- The members that hold the first of these groups are those that hold u in the others.
    pub holds_outward : (a c : ℕ) (ends : Bool) (h : ℕ) (l : Level) (ls : List Level) → Chain M e u ends h (l ∷ ls) → Rising a c (l ∷ ls) → Have (l ∷ ls) → (n : ℕ) → 1 ≤ n → n < POSITIONS → holds_at M e l.number n ≡ is_holder M e u n ls
    holds_outward a c ends h l [] (kept, flag, is, says, chain) (r, rs) (i, j) n x y = (outermost l kept (omega arith) chain).holds n x y
    holds_outward a c ends h l (k ∷ ks) (kept, flag, is, says, chain) (r, rs) (i, j) n x y =
        (within_next l kept (omega arith) _ k ks chain j.0 rs.0).holds n x y
        ∙ ap (λ (b : Bool). eqb n (member_at M e u k) || b) (holds_outward l.number c _ _ k ks chain rs j n x y)

    -- The members of the first and of those around it are those of all.
    pub among_outward : (a c : ℕ) (ends : Bool) (h : ℕ) (l : Level) (ls : List Level) → Chain M e u ends h (l ∷ ls) → Rising a c (l ∷ ls) → Have (l ∷ ls) → (n : ℕ) → 1 ≤ n → n < POSITIONS → among_at M e l.number n ≡ any_own n (l ∷ ls)
    among_outward a c ends h l [] (kept, flag, is, says, chain) (r, rs) (i, j) n x y = (outermost l kept (omega arith) chain).among n x y ∙ sym (or-false (is_own M e l.number n))
    among_outward a c ends h l (k ∷ ks) (kept, flag, is, says, chain) (r, rs) (i, j) n x y =
        (within_next l kept (omega arith) _ k ks chain j.0 rs.0).among n x y
        ∙ ap (λ (b : Bool). is_own M e l.number n || b) (among_outward l.number c _ _ k ks chain rs j n x y)

    -- A member of one of them is one of a group with a higher number than those before.
    pub own_above : (a c : ℕ) (ls : List Level) → EachLevel (Grouped M e) ls → Rising a c ls → (n : ℕ) → any_own n ls ≡ true → a < group_at M e n
    own_above a c [] k r n i = absurd (false≢true i)
    own_above a c (l ∷ ls) (k, ks) (r, rs) n i = or_cases (is_own M e l.number n) (any_own n ls) (λ x. omega (arith, own_group l k n x)) (λ x. omega (arith, own_above l.number c ls ks rs n x)) i

    pub holder_above : (a c : ℕ) (ls : List Level) → EachLevel (Grouped M e) ls → Rising a c ls → Have ls → (n : ℕ) → is_holder M e u n ls ≡ true → a < group_at M e n
    holder_above a c [] k r j n i = absurd (false≢true i)
    holder_above a c (l ∷ ls) (k, ks) (r, rs) (j, js) n i =
        or_cases (eqb n (member_at M e u l)) (is_holder M e u n ls)
        (λ x. omega (arith, ap (group_at M e) (eqb-true n (member_at M e u l) x), member_group M e l k u j))
        (λ x. omega (arith, holder_above l.number c ls ks rs js n x)) i
