-- The fold for pairs at fault: null, first, ends (complete and p next), clash (both next); what it says is so, with some sequence as witness.
use Rattle.std.specs.Prelude.{ℕ, ◌≡◌, refl, Bool, true, false, ◌&&◌, ◌||◌, List, [], ◌∷◌, ◌++◌, eqb}
use Rattle.std.proofs.Common.{sym, ◌∙◌, ap, subst, inl, inr, append_assoc, append-nil, eqb-true}
use Rattle.std.proofs.lemmas.Bool.{false≢true}
use Rattle.basic_laws.specs.Truth.{or_cases, and_left, and_right}
use Rattle.model_sets.specs.Sets.{nullable, nullable_m, first, first_m}
use Rattle.rules.specs.Walk.{Group, place, seq, alt, opt, plus, and, Members, one, also, once, more, joined, Walk, Begins}
use Rattle.and_laws.specs.Base.{joined_append}

-- The place p can go on after some walk.
abbrev mutual
  pub ends : Group → ℕ → Bool
  ends (place n) p = false
  ends (seq g h) p = (nullable h && ends g p) || ends h p
  ends (alt g h) p = (ends g p || ends h p) || ((nullable h && first g p) || (nullable g && first h p))
  ends (opt g) p = ends g p || first g p
  ends (plus g) p = ends g p || first g p
  ends (and m) p = ends_m m p

  pub ends_m : Members → ℕ → Bool
  ends_m (one g) p = ends g p
  ends_m (also m g) p = ends_m m p || ends g p

-- The place p of the members before and q of the last one can both come next.
abbrev pub cross : Bool → Bool → Bool → Bool → Bool
cross fp ep fq eq = ((fp || ep) && fq) || (eq && fp)

-- The places p and q can both come next after some sequence.
abbrev mutual
  pub clash : Group → ℕ → ℕ → Bool
  clash (place n) p q = eqb n p && eqb n q
  clash (seq g h) p q = (clash g p q || clash h p q) || ((ends g p && first h q) || (ends g q && first h p))
  clash (alt g h) p q = (clash g p q || clash h p q) || ((first g p && first h q) || (first g q && first h p))
  clash (opt g) p q = clash g p q
  clash (plus g) p q = clash g p q || ((ends g p && first g q) || (ends g q && first g p))
  clash (and m) p q = clash_m m p q

  pub clash_m : Members → ℕ → ℕ → Bool
  clash_m (one g) p q = clash g p q
  clash_m (also m g) p q = (clash_m m p q || clash g p q) || (cross (first_m m p) (ends_m m p) (first g q) (ends g q) || cross (first_m m q) (ends_m m q) (first g p) (ends g p))

-- What they mean.

abbrev pub GoesOn : Group → ℕ → Type 0
GoesOn g p = (s : List ℕ) × Walk g s × Begins g (s ++ p ∷ [])

abbrev pub Both : Group → ℕ → ℕ → Type 0
Both g p q = (s : List ℕ) × Begins g (s ++ p ∷ []) × Begins g (s ++ q ∷ [])

-- Walks of "&" groups.

pub one_walk : (g : Group) (w : List ℕ) → Walk g w → Walk (and (one g)) w
one_walk g w x = (w ∷ [], sym (append-nil w), (w, refl, x))

pub walk_one : (g : Group) (w : List ℕ) → Walk (and (one g)) w → Walk g w
walk_one g w (bs, e, (v, q, x)) = subst (Walk g) (sym (e ∙ rw (q, append-nil))) x

-- The last member may come before all others, and after them.
pub add_front : (m : Members) (g : Group) (v w : List ℕ) → Walk g v → Walk (and m) w → Walk (and (also m g)) (v ++ w)
add_front m g v w x (bs, e, o) = (v ∷ bs, ap (◌++◌ v) e, ([], bs, v, refl, o, x))

pub add_back : (m : Members) (g : Group) (w v : List ℕ) → Walk (and m) w → Walk g v → Walk (and (also m g)) (w ++ v)
add_back m g w v (bs, e, o) x = (bs ++ v ∷ [], ap (λ (z : List ℕ). z ++ v) e ∙ sym (joined_append bs (v ∷ []) ∙ rw append-nil), (bs, [], v, refl, rw append-nil o, x))

mutual
  pub some_walk : (g : Group) → (w : List ℕ) × Walk g w
  some_walk (place n) = (n ∷ [], refl)
  some_walk (seq g h) =
      let (s, x) = some_walk g in
      let (t, y) = some_walk h in
      (s ++ t, (s, t, refl, x, y))
  some_walk (alt g h) = let (s, x) = some_walk g in (s, inl x)
  some_walk (opt g) = ([], inl refl)
  some_walk (plus g) = let (s, x) = some_walk g in (s, once x)
  some_walk (and m) = some_members m

  pub some_members : (m : Members) → (w : List ℕ) × Walk (and m) w
  some_members (one g) = let (s, x) = some_walk g in (s, one_walk g s x)
  some_members (also m g) =
      let (s, x) = some_members m in
      let (t, y) = some_walk g in
      (s ++ t, add_back m g s t x y)

-- These laws are of beginnings.

pub begins_less : (g : Group) (s t : List ℕ) → Begins g (s ++ t) → Begins g s
begins_less g s t (v, w) = (t ++ v, rw (← append_assoc) w)

pub seq_a : (g h : Group) (s : List ℕ) → Begins g s → Begins (seq g h) s
seq_a g h s (t, w) = let (v, y) = some_walk h in (t ++ v, (s ++ t, v, sym (append_assoc s t v), w, y))

pub seq_b : (g h : Group) (a s : List ℕ) → Walk g a → Begins h s → Begins (seq g h) (a ++ s)
seq_b g h a s x (t, y) = (t, (a, s ++ t, append_assoc a s t, x, y))

pub plus_a : (g : Group) (s : List ℕ) → Begins g s → Begins (plus g) s
plus_a g s (t, w) = (t, once w)

pub plus_b : (g : Group) (a s : List ℕ) → Walk g a → Begins g s → Begins (plus g) (a ++ s)
plus_b g a s x (t, y) = (t, more a (s ++ t) (append_assoc a s t) x (once y))

pub one_a : (g : Group) (s : List ℕ) → Begins g s → Begins (and (one g)) s
one_a g s (t, w) = (t, one_walk g (s ++ t) w)

pub more_a : (m : Members) (g : Group) (s : List ℕ) → Begins (and m) s → Begins (and (also m g)) s
more_a m g s (t, w) = let (v, y) = some_walk g in (t ++ v, subst (Walk (and (also m g))) (append_assoc s t v) (add_back m g (s ++ t) v w y))

pub more_b : (m : Members) (g : Group) (s : List ℕ) → Begins g s → Begins (and (also m g)) s
more_b m g s (t, w) = let (v, y) = some_members m in (t ++ v, subst (Walk (and (also m g))) (append_assoc s t v) (add_front m g (s ++ t) v w y))

pub more_c : (m : Members) (g : Group) (v s : List ℕ) → Walk g v → Begins (and m) s → Begins (and (also m g)) (v ++ s)
more_c m g v s x (t, w) = (t, rw append_assoc (add_front m g v (s ++ t) x w))

pub more_d : (m : Members) (g : Group) (v s : List ℕ) → Walk (and m) v → Begins g s → Begins (and (also m g)) (v ++ s)
more_d m g v s x (t, w) = (t, rw append_assoc (add_back m g v (s ++ t) x w))

-- The fold says what is so.

mutual
  pub null_walk : (g : Group) → nullable g ≡ true → Walk g []
  null_walk (place n) e = absurd (false≢true e)
  null_walk (seq g h) e = ([], [], refl, null_walk g (and_left (nullable g) _ e), null_walk h (and_right (nullable g) _ e))
  null_walk (alt g h) e = or_cases (nullable g) (nullable h) (λ x. inl (null_walk g x)) (λ y. inr (null_walk h y)) e
  null_walk (opt g) e = inl refl
  null_walk (plus g) e = once (null_walk g e)
  null_walk (and m) e = null_m_walk m e

  pub null_m_walk : (m : Members) → nullable_m m ≡ true → Walk (and m) []
  null_m_walk (one g) e = one_walk g [] (null_walk g e)
  null_m_walk (also m g) e = add_front m g [] [] (null_walk g (and_right (nullable_m m) _ e)) (null_m_walk m (and_left (nullable_m m) _ e))

mutual
  pub first_begins : (g : Group) (p : ℕ) → first g p ≡ true → Begins g (p ∷ [])
  first_begins (place n) p e = ([], rw (eqb-true n p e))
  first_begins (seq g h) p e =
      or_cases (first g p) _ (λ x. seq_a g h (p ∷ []) (first_begins g p x)) (λ y. seq_b g h [] (p ∷ []) (null_walk g (and_left (nullable g) _ y)) (first_begins h p (and_right (nullable g) _ y))) e
  first_begins (alt g h) p e = or_cases (first g p) _ (λ x. let (t, w) = first_begins g p x in (t, inl w)) (λ y. let (t, w) = first_begins h p y in (t, inr w)) e
  first_begins (opt g) p e = let (t, w) = first_begins g p e in (t, inr w)
  first_begins (plus g) p e = plus_a g (p ∷ []) (first_begins g p e)
  first_begins (and m) p e = first_m_begins m p e

  pub first_m_begins : (m : Members) (p : ℕ) → first_m m p ≡ true → Begins (and m) (p ∷ [])
  first_m_begins (one g) p e = one_a g (p ∷ []) (first_begins g p e)
  first_m_begins (also m g) p e = or_cases (first_m m p) _ (λ x. more_a m g (p ∷ []) (first_m_begins m p x)) (λ y. more_b m g (p ∷ []) (first_begins g p y)) e

mutual
  pub ends_on : (g : Group) (p : ℕ) → ends g p ≡ true → GoesOn g p
  ends_on (place n) p e = absurd (false≢true e)
  ends_on (seq g h) p e =
      or_cases
      (nullable h && ends g p)
      _
      (λ x. let (s, w, b) = ends_on g p (and_right (nullable h) _ x) in (s, (s, [], sym (append-nil s), w, null_walk h (and_left (nullable h) _ x)), seq_a g h (s ++ p ∷ []) b))
      (λ y.
      let (s, w, b) = ends_on h p y in
      let (a, v) = some_walk g in
      (a ++ s, (a, s, refl, v, w), rw append_assoc (seq_b g h a (s ++ p ∷ []) v b)))
      e
  ends_on (alt g h) p e =
      or_cases
      (ends g p || ends h p)
      _
      (or_cases (ends g p) _ (λ x. let (s, w, (t, b)) = ends_on g p x in (s, inl w, (t, inl b))) (λ x. let (s, w, (t, b)) = ends_on h p x in (s, inr w, (t, inr b))))
      (or_cases
      (nullable h && first g p)
      _
      (λ x. let (t, b) = first_begins g p (and_right (nullable h) _ x) in ([], inr (null_walk h (and_left (nullable h) _ x)), (t, inl b)))
      (λ x. let (t, b) = first_begins h p (and_right (nullable g) _ x) in ([], inl (null_walk g (and_left (nullable g) _ x)), (t, inr b))))
      e
  ends_on (opt g) p e = or_cases (ends g p) _ (λ x. let (s, w, (t, b)) = ends_on g p x in (s, inr w, (t, inr b))) (λ y. let (t, b) = first_begins g p y in ([], inl refl, (t, inr b))) e
  ends_on (plus g) p e =
      or_cases
      (ends g p)
      _
      (λ x. let (s, w, b) = ends_on g p x in (s, once w, plus_a g (s ++ p ∷ []) b))
      (λ y. let (a, v) = some_walk g in (a, once v, plus_b g a (p ∷ []) v (first_begins g p y)))
      e
  ends_on (and m) p e = ends_m_on m p e

  pub ends_m_on : (m : Members) (p : ℕ) → ends_m m p ≡ true → GoesOn (and m) p
  ends_m_on (one g) p e = let (s, w, b) = ends_on g p e in (s, one_walk g s w, one_a g (s ++ p ∷ []) b)
  ends_m_on (also m g) p e =
      or_cases
      (ends_m m p)
      _
      (λ x.
      let (s, w, b) = ends_m_on m p x in
      let (a, v) = some_walk g in
      (a ++ s, add_front m g a s v w, rw append_assoc (more_c m g a (s ++ p ∷ []) v b)))
      (λ y.
      let (s, w, b) = ends_on g p y in
      let (a, v) = some_members m in
      (a ++ s, add_back m g a s v w, rw append_assoc (more_d m g a (s ++ p ∷ []) v b)))
      e

pub both_swap : (g : Group) (p q : ℕ) → Both g p q → Both g q p
both_swap g p q (s, a, b) = (s, b, a)

cross_both : (m : Members) (g : Group) (p q : ℕ) → cross (first_m m p) (ends_m m p) (first g q) (ends g q) ≡ true → Both (and (also m g)) p q
cross_both m g p q e =
    or_cases
    ((first_m m p || ends_m m p) && first g q)
    _
    (λ x. before (first_begins g q (and_right (first_m m p || ends_m m p) _ x)) (and_left (first_m m p || ends_m m p) _ x))
    (λ y. let (s, w, b) = ends_on g q (and_left (ends g q) _ y) in (s, more_c m g s (p ∷ []) w (first_m_begins m p (and_right (ends g q) _ y)), more_b m g (s ++ q ∷ []) b))
    e
  where
    before : Begins g (q ∷ []) → first_m m p || ends_m m p ≡ true → Both (and (also m g)) p q
    before f =
        or_cases
        (first_m m p)
        _
        (λ x. ([], more_a m g (p ∷ []) (first_m_begins m p x), more_b m g (q ∷ []) f))
        (λ y. let (s, w, b) = ends_m_on m p y in (s, more_a m g (s ++ p ∷ []) b, more_d m g s (q ∷ []) w f))

seq_both : (g h : Group) (p q : ℕ) → ends g p && first h q ≡ true → Both (seq g h) p q
seq_both g h p q e =
    let (s, w, b) = ends_on g p (and_left (ends g p) _ e) in
    (s, seq_a g h (s ++ p ∷ []) b, seq_b g h s (q ∷ []) w (first_begins h q (and_right (ends g p) _ e)))

alt_both : (g h : Group) (p q : ℕ) → first g p && first h q ≡ true → Both (alt g h) p q
alt_both g h p q e =
    let (a, x) = first_begins g p (and_left (first g p) _ e) in
    let (b, y) = first_begins h q (and_right (first g p) _ e) in
    ([], (a, inl x), (b, inr y))

plus_both : (g : Group) (p q : ℕ) → ends g p && first g q ≡ true → Both (plus g) p q
plus_both g p q e =
    let (s, w, b) = ends_on g p (and_left (ends g p) _ e) in
    (s, plus_a g (s ++ p ∷ []) b, plus_b g s (q ∷ []) w (first_begins g q (and_right (ends g p) _ e)))

mutual
  pub clash_both : (g : Group) (p q : ℕ) → clash g p q ≡ true → Both g p q
  clash_both (place n) p q e = ([], ([], rw (eqb-true n p (and_left (eqb n p) _ e))), ([], rw (eqb-true n q (and_right (eqb n p) _ e))))
  clash_both (seq g h) p q e =
      or_cases
      (clash g p q || clash h p q)
      _
      (or_cases
      (clash g p q)
      _
      (λ x. let (s, a, b) = clash_both g p q x in (s, seq_a g h (s ++ p ∷ []) a, seq_a g h (s ++ q ∷ []) b))
      (λ x.
      let (s, a, b) = clash_both h p q x in
      let (c, v) = some_walk g in
      (c ++ s, rw append_assoc (seq_b g h c (s ++ p ∷ []) v a), rw append_assoc (seq_b g h c (s ++ q ∷ []) v b))))
      (or_cases (ends g p && first h q) _ (seq_both g h p q) (λ y. both_swap (seq g h) q p (seq_both g h q p y)))
      e
  clash_both (alt g h) p q e =
      or_cases
      (clash g p q || clash h p q)
      _
      (or_cases
      (clash g p q)
      _
      (λ x. let (s, (a, v), (b, w)) = clash_both g p q x in (s, (a, inl v), (b, inl w)))
      (λ x. let (s, (a, v), (b, w)) = clash_both h p q x in (s, (a, inr v), (b, inr w))))
      (or_cases (first g p && first h q) _ (alt_both g h p q) (λ y. both_swap (alt g h) q p (alt_both g h q p y)))
      e
  clash_both (opt g) p q e = let (s, (a, v), (b, w)) = clash_both g p q e in (s, (a, inr v), (b, inr w))
  clash_both (plus g) p q e =
      or_cases
      (clash g p q)
      _
      (λ x. let (s, a, b) = clash_both g p q x in (s, plus_a g (s ++ p ∷ []) a, plus_a g (s ++ q ∷ []) b))
      (or_cases (ends g p && first g q) _ (plus_both g p q) (λ y. both_swap (plus g) q p (plus_both g q p y)))
      e
  clash_both (and m) p q e = clash_m_both m p q e

  pub clash_m_both : (m : Members) (p q : ℕ) → clash_m m p q ≡ true → Both (and m) p q
  clash_m_both (one g) p q e = let (s, a, b) = clash_both g p q e in (s, one_a g (s ++ p ∷ []) a, one_a g (s ++ q ∷ []) b)
  clash_m_both (also m g) p q e =
      or_cases
      (clash_m m p q || clash g p q)
      _
      (or_cases
      (clash_m m p q)
      _
      (λ x. let (s, a, b) = clash_m_both m p q x in (s, more_a m g (s ++ p ∷ []) a, more_a m g (s ++ q ∷ []) b))
      (λ x. let (s, a, b) = clash_both g p q x in (s, more_b m g (s ++ p ∷ []) a, more_b m g (s ++ q ∷ []) b)))
      (or_cases (cross (first_m m p) (ends_m m p) (first g q) (ends g q)) _ (cross_both m g p q) (λ y. both_swap (and (also m g)) q p (cross_both m g q p y)))
      e
