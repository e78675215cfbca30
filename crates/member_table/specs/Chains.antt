-- The chain of "&" groups around a place, as far as the table has it: it ends where no member is kept yet, and the next group that is put makes it longer.
use Rattle.std.specs.Prelude.{ℕ, suc, ◌+◌, ◌*◌, ◌≤◌, ◌≡◌, refl, Bool, true, false, ◌&&◌, cond, List, [], ◌∷◌, ◌++◌, get_or}
use Rattle.std.proofs.Common.{sym, ◌∙◌, ap, subst, inl, inr, arith}
use Rattle.rules.specs.Walk.{Group, Members, one, also}
use Rattle.layout.specs.Sizes.{MEMBER, ENDING}
use Rattle.basic_laws.specs.Truth.{or_left, or_right, or_cases, and_left, and_right, bool_cases}
use Rattle.model_sets.specs.Sets.{has, has_m, last_m, amount, required_first}
use Rattle.and_laws.specs.Sets.{GoodM}
use Rattle.and_laws.specs.Levels.{together}
use Rattle.and_laws.specs.Ranked.{Level}
use Rattle.and_laws.specs.Rows.{last_m_has}
use Rattle.member_laws.specs.Members.{needs, spares, number_in, group_at, due_at, record_at, first_at, needed_at, size_at, outer_at, Grouped, Chain}
use Rattle.member_laws.specs.Numbered.{amount_both}
use Rattle.member_entries.specs.Slots.{Slot}
use Rattle.member_table.specs.Joined.{each_map, InRange, number_from_lem}
use Rattle.and_laws.specs.Base.{apart_no}

-- Two places may be in one member.

pub together_right : (m : Members) (u v : ℕ) → together m u v ≡ true → has_m m v ≡ true
together_right (one g) u v t = and_right (has g u) (has g v) t
together_right (also m g) u v t = or_cases (together m u v) _ (λ x. or_left _ (together_right m u v x)) (λ y. or_right (has_m m v) (and_right (has g u) (has g v) y)) t

together_left : (m : Members) (u v : ℕ) → together m u v ≡ true → has_m m u ≡ true
together_left (one g) u v t = and_left (has g u) (has g v) t
together_left (also m g) u v t = or_cases (together m u v) _ (λ x. or_left _ (together_left m u v x)) (λ y. or_right (has_m m u) (and_left (has g u) (has g v) y)) t

number_together : (first needed : ℕ) (m : Members) → GoodM m → (u v : ℕ) → together m u v ≡ true → number_in first needed m v ≡ number_in first needed m u
number_together first needed (one g) d u v t = refl
number_together first needed (also m g) (d, k, a) u v t =
    or_cases
    (together m u v)
    _
    (λ x. rw (apart_no a (together_left m u v x), apart_no a (together_right m u v x)) (number_together first needed m d u v x))
    (λ y. rw (and_left (has g u) (has g v) y, and_right (has g u) (has g v) y))
    t

pub number_least : (first needed : ℕ) (m : Members) (u : ℕ) → first ≤ number_in first needed m u
number_least first needed (one g) u = number_from_lem first needed 0 0 g
number_least first needed (also m g) u = bool_cases (has g u) (λ e. rw e (number_from_lem first needed (needs m) (spares m) g)) (λ e. rw e (number_least first needed m u))

module _ (e : ℕ) where
  abbrev pub base_of : ℕ
  base_of = e * MEMBER

  -- The group is among the first b, and its members are among the first c.
  abbrev pub Among : (M : List ℕ) (b c : ℕ) → Level → Type 0
  Among M b c l = (1 ≤ l.number) × (l.number ≤ b) × (first_at M e l.number + amount l.members ≤ c + 1)

  -- From s outwards the table has these groups around u; what is kept at s belongs to the place v. At the end nothing is kept, and A holds of the place there.
  abbrev pub Spells : (M lasts : List ℕ) (b c : ℕ) (A : Bool → ℕ → Type 0) (u : ℕ) (ends : Bool) (s v : ℕ) → List Level → Type 0
  Spells M lasts b c A u ends s v [] = (get_or M s 0 ≡ 0) × A ends v
  Spells M lasts b c A u ends s v (l ∷ ls) =
      Among M b c l
      × Grouped M e l
      × (flag : Bool)
      × (get_or M s 0 ≡ number_in (first_at M e l.number) (needs l.members) l.members u + cond flag ENDING 0)
      × (ends ≡ true → flag ≡ last_m l.members u)
      × Spells M lasts b c A u (ends && last_m l.members u) (record_at M e l.number + 3) (get_or lasts l.number 0) ls

  -- Such a chain is what the table must tell.
  pub spells_chain : (M lasts : List ℕ) (b c : ℕ) (A : Bool → ℕ → Type 0) (u : ℕ) (ends : Bool) (s v : ℕ) (ls : List Level) → Spells M lasts b c A u ends s v ls → Chain M e u ends (get_or M s 0) ls
  spells_chain M lasts b c A u ends s v [] (z, a) = z
  spells_chain M lasts b c A u ends s v (l ∷ ls) (w, g, flag, is, told, more) =
      (g, flag, is, told, spells_chain M lasts b c A u (ends && last_m l.members u) (record_at M e l.number + 3) (get_or lasts l.number 0) ls more)

  -- What holds of the end may be said otherwise.
  pub spells_map : (M lasts : List ℕ) (b c : ℕ) (A A' : Bool → ℕ → Type 0) → ((ends : Bool) (v : ℕ) → A ends v → A' ends v)
      → (u : ℕ) (ls : List Level) (ends : Bool) (s v : ℕ) → Spells M lasts b c A u ends s v ls → Spells M lasts b c A' u ends s v ls
  spells_map M lasts b c A A' into u [] ends s v (z, a) = (z, into ends v a)
  spells_map M lasts b c A A' into u (l ∷ ls) ends s v (w, g, flag, x, y, more) =
      (w, g, flag, x, y, spells_map M lasts b c A A' into u ls (ends && last_m l.members u) (record_at M e l.number + 3) (get_or lasts l.number 0) more)

  -- From M to S what was there of the first b groups and c members is as it was, and so is what is kept of places that D does not have.
  pub record Keeps (lasts : List ℕ) (b c : ℕ) (D : ℕ → Bool) (M S : List ℕ) : Type 0 where
    pub other : (s v : ℕ) → Slot base_of lasts b s v → D v ≡ false → get_or S s 0 ≡ get_or M s 0
    pub kept : (s v : ℕ) → Slot base_of lasts b s v → 1 ≤ get_or M s 0 → get_or S s 0 ≡ get_or M s 0
    pub group : (n : ℕ) → n ≤ c → group_at S e n ≡ group_at M e n
    pub due : (n : ℕ) → n ≤ c → due_at S e n ≡ due_at M e n
    pub first : (n : ℕ) → n ≤ b → first_at S e n ≡ first_at M e n
    pub needed : (n : ℕ) → n ≤ b → needed_at S e n ≡ needed_at M e n
    pub size : (n : ℕ) → n ≤ b → size_at S e n ≡ size_at M e n

  module _ (lasts : List ℕ) (b c : ℕ) (D : ℕ → Bool) (M S : List ℕ) (K : Keeps lasts b c D M S) where
    grouped_keep : (l : Level) → Among M b c l → Grouped M e l → Grouped S e l
    grouped_keep l (from, to, high) g =
        let f = K.first l.number to in
        record {
          within = g.within;
          some = omega (arith, f, g.some);
          room = omega (arith, f, g.room);
          few = g.few;
          needed = K.needed l.number to ∙ g.needed;
          size = K.size l.number to ∙ g.size;
          members =
              rw f
              (each_map {P = λ (n : ℕ) (x : Group). (group_at M e n ≡ l.number) × (due_at M e n ≡ required_first x)} {Q = λ (n : ℕ) (x : Group). (group_at S e n ≡ l.number) × (due_at S e n ≡ required_first x)} (first_at M e l.number) (needs l.members) l.members (λ n x r p. (K.group n (low n r) ∙ p.0, K.due n (low n r) ∙ p.1)) g.members);
        }
      where
        low : (n : ℕ) → InRange (first_at M e l.number) (needs l.members) (needs l.members) (spares l.members) n → n ≤ c
        low n (inl (x, y)) = omega (arith, amount_both l.members)
        low n (inr (x, y)) = omega (arith, amount_both l.members)

    among_keep : (b' c' : ℕ) → b ≤ b' → c ≤ c' → (l : Level) → Among M b c l → Among S b' c' l
    among_keep b' c' x y l (from, to, high) = (from, omega arith, omega (arith, K.first l.number to))

    value_keep : (l : Level) → Among M b c l → Grouped M e l → (u s v : ℕ) → Slot base_of lasts b s v → (flag : Bool)
        → get_or M s 0 ≡ number_in (first_at M e l.number) (needs l.members) l.members u + cond flag ENDING 0
        → get_or S s 0 ≡ number_in (first_at S e l.number) (needs l.members) l.members u + cond flag ENDING 0
    value_keep l (from, to, high) g u s v is flag e' =
        K.kept s v is (omega (arith, e', g.some, number_least (first_at M e l.number) (needs l.members) l.members u))
        ∙ e'
        ∙ ap (λ (f : ℕ). number_in f (needs l.members) l.members u + cond flag ENDING 0) (sym (K.first l.number to))

    next_slot : (l : Level) → Among M b c l → Slot base_of lasts b (record_at M e l.number + 3) (get_or lasts l.number 0)
    next_slot l (from, to, high) = inr (l.number, from, to, refl, refl)

    module _ (lasts' : List ℕ) (b' c' : ℕ) (b_to : b ≤ b') (c_to : c ≤ c') (agree : (n : ℕ) → n ≤ b → get_or lasts' n 0 ≡ get_or lasts n 0) (u : ℕ) where
      -- A chain that ends outside D stays.
      pub spells_keep : (A A' : Bool → ℕ → Type 0) → ((ends : Bool) (v : ℕ) → A ends v → D v ≡ false) → ((ends : Bool) (v : ℕ) → A ends v → A' ends v)
          → (ls : List Level) (ends : Bool) (s v : ℕ) → Slot base_of lasts b s v → Spells M lasts b c A u ends s v ls → Spells S lasts' b' c' A' u ends s v ls
      spells_keep A A' out into [] ends s v is (z, a) = (K.other s v is (out ends v a) ∙ z, into ends v a)
      spells_keep A A' out into (l ∷ ls) ends s v is (w, g, flag, x, y, more) = (
        among_keep b' c' b_to c_to l w,
        grouped_keep l w g,
        flag,
        value_keep l w g u s v is flag x,
        y,
        subst
            (λ (q : ℕ). Spells S lasts' b' c' A' u (ends && last_m l.members u) (record_at M e l.number + 3) q ls)
            (sym (agree l.number w.1))
            (spells_keep A A' out into ls (ends && last_m l.members u) (record_at M e l.number + 3) (get_or lasts l.number 0) (next_slot l w) more),
      )

  -- The chain of u in a member of m, and in the group of m.
  abbrev pub InMember : Members → ℕ → Bool → ℕ → Type 0
  InMember m u ends v = (together m u v ≡ true) × (ends ≡ true → last_m m v ≡ last_m m u)

  abbrev pub InGroup : Members → ℕ → Bool → ℕ → Type 0
  InGroup m u ends v = (has_m m v ≡ true) × (ends ≡ true → last_m m v ≡ last_m m u)

  -- The group of m is put after b groups and c members.
  pub record Closes (lasts lasts' : List ℕ) (b c : ℕ) (m : Members) (M S : List ℕ) : Type 0 where
    pub keeps : Keeps lasts b c (has_m m) M S
    pub put : (s v : ℕ) → Slot base_of lasts b s v → has_m m v ≡ true → get_or M s 0 ≡ 0 → get_or S s 0 ≡ number_in (c + 1) (needs m) m v + cond (last_m m v) ENDING 0
    pub grouped : Grouped S e (record { number = suc b; members = m })
    pub first : first_at S e (suc b) ≡ c + 1
    pub outer : outer_at S e (suc b) ≡ 0
    pub agree : (n : ℕ) → n ≤ b → get_or lasts' n 0 ≡ get_or lasts n 0
    pub ends : last_m m (get_or lasts' (suc b) 0) ≡ true

  -- A chain in a member gets the group as its last.
  module _ (lasts lasts' : List ℕ) (b c : ℕ) (m : Members) (good : GoodM m) (M S : List ℕ) (C : Closes lasts lasts' b c m M S) (u : ℕ) where
    pub spells_close : (ls : List Level) (ends : Bool) (s v : ℕ) → Slot base_of lasts b s v → Spells M lasts b c (InMember m u) u ends s v ls
        → Spells S lasts' (suc b) (c + amount m) (InGroup m u) u ends s v (ls ++ record { number = suc b; members = m } ∷ [])
    spells_close [] ends s v is (z, (t, le)) = (
      (omega arith, omega arith, omega (arith, C.first)),
      C.grouped,
      last_m m v,
      C.put s v is (together_right m u v t) z
          ∙ ap (λ (n : ℕ). n + cond (last_m m v) ENDING 0) (number_together (c + 1) (needs m) m good u v t)
          ∙ ap (λ (f : ℕ). number_in f (needs m) m u + cond (last_m m v) ENDING 0) (sym C.first),
      le,
      (C.outer, (last_m_has m (get_or lasts' (suc b) 0) C.ends, λ i. C.ends ∙ sym (and_right ends (last_m m u) i))),
    )
    spells_close (l ∷ ls) ends s v is (w, g, flag, x, y, more) =
        let K = C.keeps in (
          among_keep lasts b c (has_m m) M S K (suc b) (c + amount m) (omega arith) (omega arith) l w,
          grouped_keep lasts b c (has_m m) M S K l w g,
          flag,
          value_keep lasts b c (has_m m) M S K l w g u s v is flag x,
          y,
          subst
              (λ (q : ℕ). Spells S lasts' (suc b) (c + amount m) (InGroup m u) u (ends && last_m l.members u) (record_at M e l.number + 3) q (ls ++ record { number = suc b; members = m } ∷ []))
              (sym (C.agree l.number w.1))
              (spells_close ls (ends && last_m l.members u) (record_at M e l.number + 3) (get_or lasts l.number 0) (next_slot lasts b c (has_m m) M S K l w) more),
        )
