-- The first group that blocks is that of the first member which must come and has not begun, if the groups up to it can end.
use Rattle.std.specs.Prelude.{ℕ, ◌+◌, ◌-◌, ◌≤◌, ◌<◌, ◌≡◌, refl, Bool, true, false, ◌&&◌, ◌||◌, not, cond, List, [], ◌∷◌, ltb}
use Rattle.std.proofs.Common.{sym, ◌∙◌, ap, subst, arith, ltb-true, ltb-false}
use Rattle.std.proofs.lemmas.Bool.{false≢true, not-true}
use Rattle.std.proofs.Math.Bool.{and-false}
use Rattle.rules.specs.Walk.{Group}
use Rattle.layout.specs.Sizes.{AND_GROUPS, ENDING}
use Rattle.basic_laws.specs.Truth.{and_left, and_right, or_left, or_right, or_cases, bool_cases}
use Rattle.model_sets.specs.Sets.{has_m, last_m}
use Rattle.and_laws.specs.Rest.{all_m}
use Rattle.and_laws.specs.Rows.{fine}
use Rattle.and_laws.specs.Levels.{blocks_in}
use Rattle.and_laws.specs.Ranked.{Level, groups_of, Rising}
use Rattle.member_laws.specs.Members.{needs, group_at, first_at, outer_at, reach_at, is_needed, among_at, is_own, AllSets, Ordered, Grouped, Chain, begun_at, Marked, AllMarked}
use Rattle.member_laws.specs.Inside.{EachLevel, each_level, IsAround}
use Rattle.member_laws.specs.Around.{member_at, member_small, chain_kept}
use Rattle.member_laws.specs.Sets.{First, first_of, any_own, own_range, own_group, needed_own, begun_fine, fine_begun, outermost, within_next, among_outward, own_above}
use Rattle.member_bits.specs.declared.Bits.{Bits}
use Rattle.member_bits.specs.Having as having
use Rattle.member_bits.specs.Having.{Has}
use Rattle.member_bits.specs.Operations.{has_same}
use Rattle.and_groups.specs.Asked.{Awaits, Blocking, free, held, Blocks}

module _ (M : List ℕ) (e : ℕ) (sets : AllSets M e) (order : Ordered M e) (begun : List ℕ) (level : ℕ) (g : Group) (p : ℕ) (S : ℕ → Bool) where
  abbrev Around : List Level → Type 0
  Around ls = EachLevel (IsAround g 0 p) ls

  -- The member n must come in one of these groups and has not begun.
  abbrev lacking : List Level → ℕ → Bool
  lacking ls n = (any_own M e n ls && is_needed M e n) && not (begun_at begun level n)

  -- The number x is that of the first such member, or 0.
  abbrev FirstOf : List Level → ℕ → Type 0
  FirstOf ls x = having.First (lacking ls) x

  -- A group reaches itself at least.
  reach_least : (a c : ℕ) (ends : Bool) (h : ℕ) (l : Level) (ls : List Level) → Chain M e p ends h (l ∷ ls) → Rising a c (l ∷ ls) → Around (l ∷ ls) → l.number ≤ reach_at M e l.number
  reach_least a c ends h l [] (kept, flag, is, says, chain) (r, rs) (i, j) = omega (arith, (outermost M e sets p l kept (omega arith) chain).reach)
  reach_least a c ends h l (k ∷ ks) (kept, flag, is, says, chain) (r, rs) (i, j) =
      let w = within_next M e sets p l kept (omega arith) _ k ks chain j.0.1 rs.0 in
      bool_cases (ltb ENDING (outer_at M e l.number))
      (λ b. omega (arith, w.reach ∙ ap (λ (t : Bool). cond t (reach_at M e k.number) l.number) b, reach_least l.number c _ _ k ks chain rs j, rs.0))
      (λ b. omega (arith, w.reach ∙ ap (λ (t : Bool). cond t (reach_at M e k.number) l.number) b))

  -- What a group adds comes before what those around it have.
  own_before : (l : Level) → Grouped M e l → 1 ≤ l.number → (c : ℕ) (ls : List Level) → EachLevel (Grouped M e) ls → Rising l.number c ls → (m n : ℕ) → is_own M e l.number m ≡ true → any_own M e n ls ≡ true → m < n
  own_before l kept some c [] ks rs m n x y = absurd (false≢true y)
  own_before l kept some c (k ∷ ls) (q, ks) (r, rs) m n x y =
      or_cases (is_own M e k.number n) (any_own M e n ls)
      (λ z. omega (arith, own_range M e l kept m x, own_range M e k q n z, order l.number k.number some r q.within q.some, kept.size))
      (λ z. own_before l kept some c ls ks (later c ls (omega arith) rs) m n x z) y
    where
      later : (c : ℕ) (ls : List Level) → l.number ≤ k.number → Rising k.number c ls → Rising l.number c ls
      later c [] z r = omega arith
      later c (j ∷ ls) z (r, rs) = (omega arith, rs)

  -- Where the group lacks nothing, the first that is lacking is lacking farther out.
  module _ (l : Level) (kept : Grouped M e l) (marked : Marked begun level M e S l) (ls : List Level) (all : all_m (fine S) l.members ≡ true) where
    same_lacking : (n : ℕ) → lacking (l ∷ ls) n ≡ lacking ls n
    same_lacking n = bool_cases (is_own M e l.number n)
        (λ o. bool_cases (is_needed M e n)
        (λ m. rw (fine_begun M e l kept sets begun level S marked all n o m, m, o) (sym (and-false (any_own M e n ls && true))))
        (λ m. rw (m, o) (sym (ap (λ (t : Bool). t && not (begun_at begun level n)) (and-false (any_own M e n ls))))))
        (λ o. rw o)

    first_outward : (x : ℕ) → FirstOf (l ∷ ls) x → FirstOf ls x
    first_outward x (having.none z f) = having.none z (λ n a b. sym (same_lacking n) ∙ f n a b)
    first_outward x (having.some a b y f) = having.some a b (sym (same_lacking x) ∙ y) (λ n c d. sym (same_lacking n) ∙ f n c d)

  -- The first group lacks a member: the first that is lacking is its own.
  first_own : (l : Level) (kept : Grouped M e l) → Marked begun level M e S l → 1 ≤ l.number → (c : ℕ) (ls : List Level) → EachLevel (Grouped M e) ls → Rising l.number c ls → all_m (fine S) l.members ≡ false → (x : ℕ) → FirstOf (l ∷ ls) x → (1 ≤ x) × Awaits M begun level e (l ∷ ls) l x
  first_own l kept marked some c ls ks rs lacks x (having.none z f) =
      absurd (false≢true (sym lacks ∙ begun_fine M e l kept sets begun level S marked (λ n o m. let r = own_range M e l kept n o in nothing n o m (f n (omega (arith, kept.some)) (omega (arith, kept.room))))))
    where
      nothing : (n : ℕ) → is_own M e l.number n ≡ true → is_needed M e n ≡ true → lacking (l ∷ ls) n ≡ false → begun_at begun level n ≡ true
      nothing n o m q = bool_cases (begun_at begun level n) (λ b. b) (λ b. absurd (false≢true (sym q ∙ rw (o, m, b))))
  first_own l kept marked some c ls ks rs lacks x (having.some a b y f) = (a, record { own = own; unset = not-true (begun_at begun level x) (and_right (any_own M e x (l ∷ ls) && is_needed M e x) _ y); before = before; inside = λ n o. or_left _ o })
    where
      -- A member of the group that is needed and comes before x has begun.
      earlier : (n : ℕ) → is_own M e l.number n ≡ true → is_needed M e n ≡ true → n < x → begun_at begun level n ≡ true
      earlier n i m d = bool_cases (begun_at begun level n) (λ t. t) (λ t. absurd (false≢true (sym (f n (omega (arith, own_range M e l kept n i, kept.some)) d) ∙ rw (i, m, t))))

      outer : is_own M e l.number x ≡ false → any_own M e x ls ≡ true
      outer o = rw o at (and_left (any_own M e x (l ∷ ls)) _ (and_left (any_own M e x (l ∷ ls) && is_needed M e x) _ y))

      own : is_own M e l.number x ≡ true
      own = bool_cases (is_own M e l.number x) (λ o. o) (λ o. absurd (false≢true (sym lacks ∙ begun_fine M e l kept sets begun level S marked (λ n i m. earlier n i m (own_before l kept some c ls ks rs n x i (outer o))))))

      before : (n : ℕ) → is_own M e l.number n ≡ true → n < x → begun_at begun level n ≡ true
      before n i d = bool_cases (is_needed M e n) (λ m. earlier n i m d) later
        where
          later : is_needed M e n ≡ false → begun_at begun level n ≡ true
          later m =
              let low = ltb-true x (first_at M e l.number + needs l.members) (sym (needed_own M e l kept sets x own) ∙ and_right (any_own M e x (l ∷ ls)) _ (and_left (any_own M e x (l ∷ ls) && is_needed M e x) _ y)) in
              absurd (omega (arith, low, ltb-false n (first_at M e l.number + needs l.members) (sym (needed_own M e l kept sets n i) ∙ m)))

  -- Whether the first that is lacking is within reach decides whether a group blocks.
  data Found (l : Level) (ls : List Level) (x : ℕ) : Type 0 where
    beyond : (1 ≤ x → reach_at M e l.number < group_at M e x) → blocks_in (groups_of (l ∷ ls)) p S ≡ false → Found l ls x
    within : 1 ≤ x → group_at M e x ≤ reach_at M e l.number → Blocking M begun level e g p S (l ∷ ls) x → Found l ls x

  -- The group at hand can end.
  module _ (a c h : ℕ) (l : Level) (kept : Grouped M e l) (is : h ≡ member_at M e p l + ENDING) (says : true ≡ true → true ≡ last_m l.members p) (i : IsAround g 0 p l) (m : Marked begun level M e S l) (r : a < l.number) (x : ℕ) where
    ends : last_m l.members p ≡ true
    ends = sym (says refl)

    found_lacks : (ls : List Level) → Chain M e p (true && last_m l.members p) (outer_at M e l.number) ls → Rising l.number c ls → Around ls → FirstOf (l ∷ ls) x → all_m (fine S) l.members ≡ false → Found l ls x
    found_lacks ls chain rs j f z =
        let (some, waits) = first_own l kept m (omega arith) c ls (chain_kept M e p _ _ ls chain) rs z x f in
        within some (omega (arith, own_group M e l kept x waits.own, reach_least a c true h l ls (kept, true, is, says, chain) (r, rs) (i, j))) (held some l waits kept m i (rw (ends, z)) (rw z))

    found_last : FirstOf (l ∷ []) x → all_m (fine S) l.members ≡ true → Found l [] x
    found_last f z = go (first_outward l kept m [] z x f)
      where
        go : FirstOf [] x → Found l [] x
        go (having.none y n) = beyond (λ s. absurd (omega arith)) (rw (ends, z))
        go (having.some s t y n) = absurd (false≢true y)

    found_on : (k : Level) (ks : List Level) → Chain M e p (true && last_m l.members p) (outer_at M e l.number) (k ∷ ks) → Rising l.number c (k ∷ ks) → Around (k ∷ ks) → FirstOf (l ∷ k ∷ ks) x → all_m (fine S) l.members ≡ true → (Chain M e p true (outer_at M e l.number) (k ∷ ks) → ENDING < outer_at M e l.number → FirstOf (k ∷ ks) x → Found k ks x) → Found l (k ∷ ks) x
    found_on k ks q (t, ts) (v, vs) f z farther = bool_cases (ltb ENDING (outer_at M e l.number)) onward stops
      where
        next : Chain M e p true (outer_at M e l.number) (k ∷ ks)
        next = subst (λ (b : Bool). Chain M e p b (outer_at M e l.number) (k ∷ ks)) ends q

        reach : reach_at M e l.number ≡ cond (ltb ENDING (outer_at M e l.number)) (reach_at M e k.number) l.number
        reach = (within_next M e sets p l kept (omega arith) _ k ks q v.1 t).reach

        rest : FirstOf (k ∷ ks) x
        rest = first_outward l kept m (k ∷ ks) z x f

        onward : ltb ENDING (outer_at M e l.number) ≡ true → Found l (k ∷ ks) x
        onward b = go (farther next (ltb-true ENDING (outer_at M e l.number) b) rest)
          where
            far : reach_at M e l.number ≡ reach_at M e k.number
            far = reach ∙ ap (λ (y : Bool). cond y (reach_at M e k.number) l.number) b

            wider : Blocking M begun level e g p S (k ∷ ks) x → Blocking M begun level e g p S (l ∷ k ∷ ks) x
            wider (free y n) = free y (rw (ends, z) n)
            wider (held s o waits kept marked is blocks lone) = held s o (record { own = waits.own; unset = waits.unset; before = waits.before; inside = λ n y. or_right (is_own M e l.number n) (waits.inside n y) }) kept marked is (rw (ends, z) blocks) (rw z lone)

            go : Found k ks x → Found l (k ∷ ks) x
            go (beyond y n) = beyond (λ s. omega (arith, far, y s)) (rw (ends, z) n)
            go (within s y n) = within s (omega (arith, far)) (wider n)

        stops : ltb ENDING (outer_at M e l.number) ≡ false → Found l (k ∷ ks) x
        stops b = beyond (λ s. omega (arith, reach ∙ ap (λ (y : Bool). cond y (reach_at M e k.number) l.number) b, above s rest)) (rw (ends, z) (last next))
          where
            last : Chain M e p true (outer_at M e l.number) (k ∷ ks) → blocks_in (groups_of (k ∷ ks)) p S ≡ false
            last (kept, true, is, says, chain) = absurd (omega (arith, member_small M e k kept p v.1, ltb-false ENDING (outer_at M e l.number) b))
            last (kept, false, is, says, chain) = ap (λ (y : Bool). y && (not (all_m (fine S) k.members) || blocks_in (groups_of ks) p S)) (sym (says refl))

            above : 1 ≤ x → FirstOf (k ∷ ks) x → l.number < group_at M e x
            above s (having.none y n) = absurd (omega arith)
            above s (having.some a d y n) = own_above M e sets p l.number c (k ∷ ks) (chain_kept M e p _ _ (k ∷ ks) next) (t, ts) x (and_left (any_own M e x (k ∷ ks)) _ (and_left (any_own M e x (k ∷ ks) && is_needed M e x) _ y))

  -- The member at hand can end.
  can_end : (h : ℕ) (l : Level) (ls : List Level) → Chain M e p true h (l ∷ ls) → ENDING < h → has_m l.members p ≡ true → (h ≡ member_at M e p l + ENDING) × (true ≡ true → true ≡ last_m l.members p)
  can_end h l ls (kept, true, is, says, chain) large i = (is, says)
  can_end h l ls (kept, false, is, says, chain) large i = absurd (omega (arith, member_small M e l kept p i))

  found : (a c h : ℕ) (l : Level) (ls : List Level) → Chain M e p true h (l ∷ ls) → ENDING < h → Rising a c (l ∷ ls) → Around (l ∷ ls) → AllMarked begun level M e S (l ∷ ls) → (x : ℕ) → FirstOf (l ∷ ls) x → Found l ls x
  found a c h l [] chain large (r, rs) (i, j) (m, ms) x f =
      let (is, says) = can_end h l [] chain large i.1 in
      bool_cases (all_m (fine S) l.members) (found_last a c h l chain.0 is says i m r x f) (found_lacks a c h l chain.0 is says i m r x [] chain.4 rs j f)
  found a c h l (k ∷ ks) chain large (r, rs) (i, j) (m, ms) x f =
      let (is, says) = can_end h l (k ∷ ks) chain large i.1 in
      bool_cases (all_m (fine S) l.members)
      (λ z. found_on a c h l chain.0 is says i m r x k ks chain.4 rs j f z (λ next big rest. found l.number c (outer_at M e l.number) k ks next big rs j ms x rest))
      (found_lacks a c h l chain.0 is says i m r x (k ∷ ks) chain.4 rs j f)

-- This is read of the sets.
module _ (M : List ℕ) (e inner : ℕ) (b : Bits) where
  -- The member at hand cannot end, or there is none.
  pub blocks_none : inner ≤ ENDING → Blocks M e inner b 0
  blocks_none z = record { small = omega arith; ends = λ s. absurd (omega arith); group = λ s. absurd (omega arith); says = λ sets order begun level has g p S ls c chain rising around marked. free refl (go g p S ls chain around) }
    where
      go : (g : Group) (p : ℕ) (S : ℕ → Bool) (ls : List Level) → Chain M e p true inner ls → EachLevel (IsAround g 0 p) ls → blocks_in (groups_of ls) p S ≡ false
      go g p S [] chain around = refl
      go g p S (l ∷ ls) (kept, true, is, says, chain) (i, j) = absurd (omega (arith, member_small M e l kept p i.1))
      go g p S (l ∷ ls) (kept, false, is, says, chain) (i, j) = ap (λ (y : Bool). y && (not (all_m (fine S) l.members) || blocks_in (groups_of ls) p S)) (sym (says refl))

  module _ (ends : ENDING < inner) (h : ℕ) (lower : h ≡ inner - ENDING) (n : ℕ) (at : n ≡ group_at M e h) where
    -- The member at hand is one of the first group.
    first_at_lem : (g : Group) (p : ℕ) (l : Level) (ls : List Level) → Chain M e p true inner (l ∷ ls) → IsAround g 0 p l → First M e h p l
    first_at_lem g p l ls (kept, true, is, says, chain) i = first_of M e h p true inner l ls (omega (arith, member_small M e l kept p i.1)) (kept, true, is, says, chain) i.1
    first_at_lem g p l ls (kept, false, is, says, chain) i = absurd (omega (arith, member_small M e l kept p i.1))

    blocks_by : (r : ℕ) → r ≤ 128 → (1 ≤ r → n ≤ AND_GROUPS) → ((g : Group) (p : ℕ) (S : ℕ → Bool) (l : Level) (ls : List Level) (c : ℕ) → AllSets M e → Ordered M e → (begun : List ℕ) (level : ℕ) → Has b (begun_at begun level) → Chain M e p true inner (l ∷ ls) → Rising 0 c (l ∷ ls) → EachLevel (IsAround g 0 p) (l ∷ ls) → AllMarked begun level M e S (l ∷ ls) → First M e h p l → Blocking M begun level e g p S (l ∷ ls) r) → Blocks M e inner b r
    blocks_by r small near f = record { small = small; ends = λ s. ends; group = λ s. omega (arith, near s, at, ap (group_at M e) lower); says = λ sets order begun level has g p S ls c chain rising around marked. go sets order begun level has g p S ls c chain rising around marked }
      where
        go : AllSets M e → Ordered M e → (begun : List ℕ) (level : ℕ) → Has b (begun_at begun level) → (g : Group) (p : ℕ) (S : ℕ → Bool) (ls : List Level) (c : ℕ) → Chain M e p true inner ls → Rising 0 c ls → EachLevel (IsAround g 0 p) ls → AllMarked begun level M e S ls → Blocking M begun level e g p S ls r
        go sets order begun level has g p S [] c chain rising around marked = absurd (omega arith)
        go sets order begun level has g p S (l ∷ ls) c chain rising around marked = f g p S l ls c sets order begun level has chain rising around marked (first_at_lem g p l ls chain around.0)

    pub blocks_far : AND_GROUPS < n → Blocks M e inner b 0
    blocks_far z = blocks_by 0 (omega arith) (λ s. absurd (omega arith)) (λ g p S l ls c sets order begun level has chain rising around marked f. absurd (omega (arith, f.within)))

    module _ (among needed common without : Bits) (is_among : Has among (among_at M e n)) (is_needed_here : Has needed (is_needed M e)) (is_common : (f k : ℕ → Bool) → Has among f → Has needed k → Has common (λ (x : ℕ). f x && k x)) (is_without : (f k : ℕ → Bool) → Has common f → Has b k → Has without (λ (x : ℕ). f x && not (k x))) (x : ℕ) (few : x ≤ 128) (is_first : (f : ℕ → Bool) → Has without f → having.First f x) where
      found_at : (g : Group) (p : ℕ) (S : ℕ → Bool) (l : Level) (ls : List Level) (c : ℕ) (sets : AllSets M e) (order : Ordered M e) (begun : List ℕ) (level : ℕ) → Has b (begun_at begun level) → Chain M e p true inner (l ∷ ls) → Rising 0 c (l ∷ ls) → (around : EachLevel (IsAround g 0 p) (l ∷ ls)) → AllMarked begun level M e S (l ∷ ls) → First M e h p l → Found M e sets order begun level g p S l ls x
      found_at g p S l ls c sets order begun level has chain rising around marked f =
          found M e sets order begun level g p S 0 c inner l ls chain ends rising around marked x
          (is_first _
          (has_same
          (λ m y z. ap (λ (q : Bool). (q && is_needed M e m) && not (begun_at begun level m)) (ap (λ (k : ℕ). among_at M e k m) (at ∙ f.group) ∙ among_outward M e sets p 0 c true inner l ls chain rising (each_level (IsAround g 0 p) (λ (l : Level). has_m l.members p ≡ true) (λ l a. a.1) (l ∷ ls) around) m y z))
          (is_without _ _ (is_common _ _ is_among is_needed_here) has)))

      pub blocks_free : x ≡ 0 → Blocks M e inner b 0
      blocks_free z = blocks_by 0 (omega arith) (λ s. absurd (omega arith)) (λ g p S l ls c sets order begun level has chain rising around marked f. go g p S l ls c sets order begun level (found_at g p S l ls c sets order begun level has chain rising around marked f))
        where
          go : (g : Group) (p : ℕ) (S : ℕ → Bool) (l : Level) (ls : List Level) (c : ℕ) (sets : AllSets M e) (order : Ordered M e) (begun : List ℕ) (level : ℕ) → Found M e sets order begun level g p S l ls x → Blocking M begun level e g p S (l ∷ ls) 0
          go g p S l ls c sets order begun level (beyond y w) = free refl w
          go g p S l ls c sets order begun level (within s y w) = absurd (omega arith)

      module _ (some : x ≡ 0 → ⊥) (reach group : ℕ) (is_reach : reach ≡ reach_at M e n) (is_group : group ≡ group_at M e x) where
        pub blocks_beyond : reach < group → Blocks M e inner b 0
        blocks_beyond z = blocks_by 0 (omega arith) (λ s. absurd (omega arith)) (λ g p S l ls c sets order begun level has chain rising around marked f. go g p S l ls sets order begun level f (found_at g p S l ls c sets order begun level has chain rising around marked f))
          where
            go : (g : Group) (p : ℕ) (S : ℕ → Bool) (l : Level) (ls : List Level) (sets : AllSets M e) (order : Ordered M e) (begun : List ℕ) (level : ℕ) → First M e h p l → Found M e sets order begun level g p S l ls x → Blocking M begun level e g p S (l ∷ ls) 0
            go g p S l ls sets order begun level f (beyond y w) = free refl w
            go g p S l ls sets order begun level f (within s y w) = absurd (omega (arith, is_reach ∙ ap (reach_at M e) (at ∙ f.group)))

        pub blocks_held : n ≤ AND_GROUPS → group ≤ reach → Blocks M e inner b x
        blocks_held near z = blocks_by x few (λ s. near) (λ g p S l ls c sets order begun level has chain rising around marked f. go g p S l ls sets order begun level f (found_at g p S l ls c sets order begun level has chain rising around marked f))
          where
            go : (g : Group) (p : ℕ) (S : ℕ → Bool) (l : Level) (ls : List Level) (sets : AllSets M e) (order : Ordered M e) (begun : List ℕ) (level : ℕ) → First M e h p l → Found M e sets order begun level g p S l ls x → Blocking M begun level e g p S (l ∷ ls) x
            go g p S l ls sets order begun level f (beyond y w) = absurd (omega (arith, is_reach ∙ ap (reach_at M e) (at ∙ f.group), y (omega arith)))
            go g p S l ls sets order begun level f (within s y w) = w
