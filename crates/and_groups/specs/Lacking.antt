-- The place that a group requires which lacks a member: that of the first that it lacks, if no other of its members has not begun. One that has not is above it, and
-- the next above it, of all groups around, is then one of the same group.
use Rattle.std.specs.Prelude.{ℕ, ◌+◌, ◌-◌, ◌≤◌, ◌<◌, ◌≡◌, refl, Bool, true, false, ◌&&◌, not, List, [], ◌∷◌, eqb, ltb}
use Rattle.std.proofs.Common.{sym, ◌∙◌, ap, subst, arith, eqb-true, lt-ltb, ltb-true}
use Rattle.std.proofs.lemmas.Bool.{false≢true, eqb-false, not-true}
use Rattle.std.proofs.Math.Decide.{ℕ_discrete, dec_lt}
use Rattle.rules.specs.Bytes.{GRPGTCNT}
use Rattle.layout.specs.Sizes.{ENDING}
use Rattle.basic_laws.specs.Truth.{and_left, and_right, bool_cases}
use Rattle.model_sets.specs.Sets.{has_m, amount}
use Rattle.and_laws.specs.Req.{required_rest}
use Rattle.and_laws.specs.Ranked.{Level, Rising}
use Rattle.member_laws.specs.Members.{group_at, first_at, due_at, among_at, is_own, AllSets, Grouped, Chain, begun_at, Marked}
use Rattle.member_laws.specs.Numbered.{rest_one, rest_two}
use Rattle.member_laws.specs.Inside.{EachLevel}
use Rattle.member_laws.specs.Around.{numbered_due, member_small, chain_kept}
use Rattle.member_laws.specs.Sets.{first_of, any_own, own_range, range_own, own_group, own_its, among_outward}
use Rattle.member_bits.specs.declared.Bits.{Bits}
use Rattle.member_bits.specs.Having as having
use Rattle.member_bits.specs.Having.{Has}
use Rattle.member_bits.specs.Operations.{has_same}
use Rattle.and_groups.specs.Asked.{Awaits, Alone, Due}

-- These laws are of one group.
module _ (M begun : List ℕ) (level e : ℕ) (ls : List Level) (l : Level) (kept : Grouped M e l) (S : ℕ → Bool) (marked : Marked begun level M e S l) (x : ℕ) (waits : Awaits M begun level e ls l x) where
  abbrev first : ℕ
  first = first_at M e l.number

  abbrev B : ℕ → Bool
  B n = begun_at begun level n

  -- A member is told by how far it is from the first.
  at : (n : ℕ) → is_own M e l.number n ≡ true → first + (n - first) ≡ n
  at n o = omega (arith, own_range M e l kept n o)

  inside : (n : ℕ) → is_own M e l.number n ≡ true → n - first < amount l.members
  inside n o = omega (arith, own_range M e l kept n o)

  rest_alone : ((n : ℕ) → is_own M e l.number n ≡ true → x < n → B n ≡ true) → required_rest l.members S ≡ due_at M e x
  rest_alone f =
      rest_one first l.members S B (due_at M e) marked (numbered_due M e l kept) (x - first) (inside x waits.own) (ap B (at x waits.own) ∙ waits.unset) only
      ∙ ap (due_at M e) (at x waits.own)
    where
      only : (i : ℕ) → i < amount l.members → B (first + i) ≡ false → i ≡ x - first
      only i h t = go (ℕ_discrete (first + i) x) (dec_lt (first + i) x)
        where
          own : is_own M e l.number (first + i) ≡ true
          own = range_own M e l kept (first + i) (omega arith) (omega arith)

          go : Dec (first + i ≡ x) → Dec (first + i < x) → i ≡ x - first
          go (yes z) d = omega arith
          go (no z) (yes d) = absurd (false≢true (sym t ∙ waits.before (first + i) own d))
          go (no z) (no d) = absurd (false≢true (sym t ∙ f (first + i) own (omega arith)))

  rest_other : (n : ℕ) → is_own M e l.number n ≡ true → x < n → B n ≡ false → required_rest l.members S ≡ 0
  rest_other n own less t =
      rest_two first l.members S B (due_at M e) marked (numbered_due M e l kept) (x - first) (n - first) (λ z. omega (arith, at n own, at x waits.own)) (inside x waits.own) (inside n own) (ap B (at x waits.own) ∙ waits.unset) (ap B (at n own) ∙ t)

-- This is read of the sets.
module _ (M : List ℕ) (e inner x : ℕ) (b : Bits) (ends : ENDING < inner) where
  due_by : (r : ℕ) → r ≤ GRPGTCNT → ((sets : AllSets M e) (begun : List ℕ) (level : ℕ) → Has b (begun_at begun level) → (p c : ℕ) (k : Level) (ks : List Level) → Chain M e p true inner (k ∷ ks) → Rising 0 c (k ∷ ks) → EachLevel (λ (l : Level). has_m l.members p ≡ true) (k ∷ ks) → (l : Level) (S : ℕ → Bool) → Awaits M begun level e (k ∷ ks) l x → Grouped M e l → Marked begun level M e S l → required_rest l.members S ≤ GRPGTCNT → r ≡ required_rest l.members S) → Due M e inner x b r
  due_by r small f = record { small = small; says = λ sets begun level has p S c ls chain rising have l waits kept marked few. go sets begun level has p c ls chain rising have l S waits kept marked few }
    where
      go : (sets : AllSets M e) (begun : List ℕ) (level : ℕ) → Has b (begun_at begun level) → (p c : ℕ) (ls : List Level) → Chain M e p true inner ls → Rising 0 c ls → EachLevel (λ (l : Level). has_m l.members p ≡ true) ls → (l : Level) (S : ℕ → Bool) → Awaits M begun level e ls l x → Grouped M e l → Marked begun level M e S l → required_rest l.members S ≤ GRPGTCNT → r ≡ required_rest l.members S
      go sets begun level has p c [] chain rising have l S waits kept marked few = absurd (omega arith)
      go sets begun level has p c (k ∷ ks) chain rising have l S waits kept marked few = f sets begun level has p c k ks chain rising have l S waits kept marked few

  -- The number x is that of no member.
  pub due_large : GRPGTCNT < x → Due M e inner x b 0
  due_large z = due_by 0 (omega arith) (λ sets begun level has p c k ks chain rising have l S waits kept marked few. absurd (omega (arith, own_range M e l kept x waits.own, kept.room)))

  module _ (h : ℕ) (lower : h ≡ inner - ENDING) (n : ℕ) (at : n ≡ group_at M e h) (among idle above : Bits) (is_among : Has among (among_at M e n)) (is_idle : (f k : ℕ → Bool) → Has among f → Has b k → Has idle (λ (m : ℕ). f m && not (k m))) (is_above : (f : ℕ → Bool) → Has idle f → Has above (λ (m : ℕ). f m && ltb x m)) (y : ℕ) (is_first : (f : ℕ → Bool) → Has above f → having.First f y) (r : Bool) (alone : Alone M e x y r) where
    -- These are the members above x that have not begun.
    abbrev waiting : (begun : List ℕ) (level : ℕ) → List Level → ℕ → Bool
    waiting begun level ls m = (any_own M e m ls && not (begun_at begun level m)) && ltb x m

    next : AllSets M e → (begun : List ℕ) (level : ℕ) → Has b (begun_at begun level) → (p c : ℕ) (k : Level) (ks : List Level) → Chain M e p true inner (k ∷ ks) → Rising 0 c (k ∷ ks) → EachLevel (λ (l : Level). has_m l.members p ≡ true) (k ∷ ks) → having.First (waiting begun level (k ∷ ks)) y
    next sets begun level has p c k ks chain rising have =
        is_first _
        (has_same
        (λ m u v. ap (λ (t : Bool). (t && not (begun_at begun level m)) && ltb x m) (ap (λ (g : ℕ). among_at M e g m) (at ∙ group chain) ∙ among_outward M e sets p 0 c true inner k ks chain rising have m u v))
        (is_above _ (is_idle _ _ is_among has)))
      where
        group : Chain M e p true inner (k ∷ ks) → group_at M e h ≡ k.number
        group (kept, true, is, says, q) = (first_of M e h p true inner k ks (omega (arith, member_small M e k kept p have.0)) (kept, true, is, says, q) have.0).group
        group (kept, false, is, says, q) = absurd (omega (arith, member_small M e k kept p have.0))

    -- Another of the group has not begun.
    pub due_other : r ≡ false → Due M e inner x b 0
    due_other z = due_by 0 (omega arith) (λ sets begun level has p c k ks chain rising have l S waits kept marked few. sym (go begun level (k ∷ ks) l S (chain_kept M e p true inner (k ∷ ks) chain) waits kept marked (next sets begun level has p c k ks chain rising have)))
      where
        go : (begun : List ℕ) (level : ℕ) (ls : List Level) (l : Level) (S : ℕ → Bool) → EachLevel (Grouped M e) ls → Awaits M begun level e ls l x → Grouped M e l → Marked begun level M e S l → having.First (waiting begun level ls) y → required_rest l.members S ≡ 0
        go begun level ls l S all waits kept marked (having.none w f) = absurd (omega (arith, alone.no z))
        go begun level ls l S all waits kept marked (having.some u v w f) =
            let i = and_left (any_own M e y ls && not (begun_at begun level y)) _ w in
            rest_other M begun level e ls l kept S marked x waits y
            (subst (λ (g : ℕ). is_own M e g y ≡ true) ((alone.no z).1 ∙ own_group M e l kept x waits.own) (own_its M e ls all y (and_left (any_own M e y ls) _ i)))
            (ltb-true x y (and_right (any_own M e y ls && not (begun_at begun level y)) _ w))
            (not-true (begun_at begun level y) (and_right (any_own M e y ls) _ i))

    -- No other has.
    module _ (q : ℕ) (read : q ≡ due_at M e x) (z : r ≡ true) where
      is_due_lem : (begun : List ℕ) (level : ℕ) (ls : List Level) (l : Level) (S : ℕ → Bool) → Awaits M begun level e ls l x → Grouped M e l → Marked begun level M e S l → having.First (waiting begun level ls) y → q ≡ required_rest l.members S
      is_due_lem begun level ls l S waits kept marked found = read ∙ sym (rest_alone M begun level e ls l kept S marked x waits (λ m own less. bool_cases (begun_at begun level m) (λ t. t) (λ t. absurd (go m own less t found))))
        where
          go : (m : ℕ) → is_own M e l.number m ≡ true → x < m → begun_at begun level m ≡ false → having.First (waiting begun level ls) y → ⊥
          go m own less t (having.none w f) = false≢true (sym (f m (omega arith) (omega (arith, own_range M e l kept m own, kept.room))) ∙ rw (waits.inside m own, t, lt-ltb x m less))
          go m own less t (having.some u v w f) = alone.yes z u (own_group M e l kept y here ∙ sym (own_group M e l kept x waits.own))
            where
              least : Dec (m < y) → y ≤ m
              least (yes d) = absurd (false≢true (sym (f m (omega arith) d) ∙ rw (waits.inside m own, t, lt-ltb x m less)))
              least (no d) = omega arith

              here : is_own M e l.number y ≡ true
              here = range_own M e l kept y (omega (arith, own_range M e l kept x waits.own, ltb-true x y (and_right (any_own M e y ls && not (begun_at begun level y)) _ w))) (omega (arith, own_range M e l kept m own, least (dec_lt m y)))

      pub due_lone : q ≤ GRPGTCNT → Due M e inner x b q
      due_lone few = due_by q few (λ sets begun level has p c k ks chain rising have l S waits kept marked small. is_due_lem begun level (k ∷ ks) l S waits kept marked (next sets begun level has p c k ks chain rising have))

      pub due_more : GRPGTCNT < q → Due M e inner x b 0
      due_more large = due_by 0 (omega arith) (λ sets begun level has p c k ks chain rising have l S waits kept marked small. absurd (omega (arith, is_due_lem begun level (k ∷ ks) l S waits kept marked (next sets begun level has p c k ks chain rising have))))

-- The next may be of the same group or of another.
module _ (M : List ℕ) (e x y : ℕ) where
  pub alone_none : y ≡ 0 → Alone M e x y true
  alone_none z = record { yes = λ t some same. omega arith; no = λ t. absurd (false≢true (sym t)) }

  pub alone_by : (y ≡ 0 → ⊥) → (f g : ℕ) → f ≡ group_at M e y → g ≡ group_at M e x → Alone M e x y (not (eqb f g))
  alone_by some f g at_f at_g = go (eqb f g) refl
    where
      go : (t : Bool) → eqb f g ≡ t → Alone M e x y (not t)
      go true z = record { yes = λ t. absurd (false≢true t); no = λ t. (omega arith, sym at_f ∙ eqb-true f g z ∙ at_g) }
      go false z = record { yes = λ t s same. eqb-false f g z (at_f ∙ same ∙ sym at_g); no = λ t. absurd (false≢true (sym t)) }
