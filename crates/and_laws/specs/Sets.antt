-- What is computed of a group by recursion: its places, which are in "&" groups, whether it meets a set; `Good`: places differ, no "&" under "+".
use Rattle.std.specs.Prelude.{ℕ, ◌≡◌, refl, Bool, true, false, ◌||◌, List, [], ◌∷◌, ◌++◌, eqb}
use Rattle.std.proofs.Common.{sym, subst, inl, inr, eqb-true, eq-eqb}
use Rattle.std.proofs.lemmas.Bool.{false≢true}
use Rattle.basic_laws.specs.Truth.{or_left, or_right, or_cases}
use Rattle.model_sets.specs.Sets.{has, has_m}
use Rattle.rules.specs.Walk.{Group, place, seq, alt, opt, plus, and, Members, one, also, Runs, once, more, joined, Walk, Orders, Begins, MayComeNext}
pub use Rattle.rules.specs.Walk.{Plain}
use Rattle.and_laws.specs.Base.{mem, mem_left, mem_right, mem_cases, In, Apart, in_append, in_one, joined_append, Ends, ends_mem, ends_snoc}

-- The place stands in an "&" group.
abbrev pub held : Group → ℕ → Bool
held (place n) p = false
held (seq g h) p = held g p || held h p
held (alt g h) p = held g p || held h p
held (opt g) p = held g p
held (plus g) p = held g p
held (and m) p = has_m m p

-- Some place of the group is in the set.
abbrev mutual
  pub meets : Group → (ℕ → Bool) → Bool
  meets (place n) S = S n
  meets (seq g h) S = meets g S || meets h S
  meets (alt g h) S = meets g S || meets h S
  meets (opt g) S = meets g S
  meets (plus g) S = meets g S
  meets (and m) S = meets_m m S

  pub meets_m : Members → (ℕ → Bool) → Bool
  meets_m (one g) S = meets g S
  meets_m (also m g) S = meets_m m S || meets g S

-- Places differ, and no "&" stands under "+" or "*".
abbrev mutual
  pub Good : Group → Type 0
  Good (place n) = n ≡ n
  Good (seq g h) = Good g × Good h × Apart (has g) (has h)
  Good (alt g h) = Good g × Good h × Apart (has g) (has h)
  Good (opt g) = Good g
  Good (plus g) = Good g × Plain g
  Good (and m) = GoodM m

  pub GoodM : Members → Type 0
  GoodM (one g) = Good g
  GoodM (also m g) = GoodM m × Good g × Apart (has_m m) (has g)

pub plain_held : (g : Group) → Plain g → (p : ℕ) → held g p ≡ true → ⊥
plain_held (place n) y p e = false≢true e
plain_held (seq g h) y p e = or_cases (held g p) (held h p) (plain_held g y.0 p) (plain_held h y.1 p) e
plain_held (alt g h) y p e = or_cases (held g p) (held h p) (plain_held g y.0 p) (plain_held h y.1 p) e
plain_held (opt g) y p e = plain_held g y p e
plain_held (plus g) y p e = plain_held g y p e
plain_held (and m) y p e = y

pub held_has : (g : Group) (p : ℕ) → held g p ≡ true → has g p ≡ true
held_has (place n) p e = absurd (false≢true e)
held_has (seq g h) p e = or_cases (held g p) (held h p) (λ x. or_left _ (held_has g p x)) (λ y. or_right (has g p) (held_has h p y)) e
held_has (alt g h) p e = or_cases (held g p) (held h p) (λ x. or_left _ (held_has g p x)) (λ y. or_right (has g p) (held_has h p y)) e
held_has (opt g) p e = held_has g p e
held_has (plus g) p e = held_has g p e
held_has (and m) p e = e

-- The places of a walk are the group's.

runs_in : (f : ℕ → Bool) (g : Group) → ((w : List ℕ) → Walk g w → In f w) → {w : List ℕ} → Runs (Walk g) w → In f w
runs_in f g k (once {w} x) = k w x
runs_in f g k (more s t e x r) = subst (In f) (sym e) (in_append f s t (k s x) (runs_in f g k r))

-- What holds of all places of some sequences and of one more holds of the list with that one put in.
pub in_middle : (f : ℕ → Bool) (a b : List (List ℕ)) (w : List ℕ) → In f (joined (a ++ b)) → In f w → In f (joined (a ++ w ∷ b))
in_middle f a b w x y p i =
    mem_cases
    (joined a)
    (w ++ joined b)
    p
    (λ j. x p (rw joined_append (mem_left (joined a) (joined b) p j)))
    (mem_cases w (joined b) p (y p) (λ j. x p (rw joined_append (mem_right (joined a) (joined b) p j))))
    (rw joined_append at i)

mutual
  pub walk_in : (g : Group) (w : List ℕ) → Walk g w → In (has g) w
  walk_in (place n) w e = subst (In (has (place n))) (sym e) (in_one (has (place n)) n (eq-eqb n n refl))
  walk_in (seq g h) w (s, t, e, x, y) =
      subst (In (has (seq g h))) (sym e) (in_append (has (seq g h)) s t (λ p i. or_left _ (walk_in g s x p i)) (λ p i. or_right (has g p) (walk_in h t y p i)))
  walk_in (alt g h) w (inl x) = λ p i. or_left _ (walk_in g w x p i)
  walk_in (alt g h) w (inr x) = λ p i. or_right (has g p) (walk_in h w x p i)
  walk_in (opt g) w (inl e) = λ p i. absurd (false≢true (rw e at i))
  walk_in (opt g) w (inr x) = walk_in g w x
  walk_in (plus g) w x = runs_in (has g) g (walk_in g) x
  walk_in (and m) w (bs, e, o) = subst (In (has_m m)) (sym e) (orders_in m bs o)

  pub orders_in : (m : Members) (bs : List (List ℕ)) → Orders m bs → In (has_m m) (joined bs)
  orders_in (one g) bs (w, e, x) = subst (λ (z : List (List ℕ)). In (has g) (joined z)) (sym e) (in_append (has g) w [] (walk_in g w x) (λ p i. absurd (false≢true i)))
  orders_in (also m g) bs (a, b, w, e, o, x) =
      subst
      (λ (z : List (List ℕ)). In (has_m (also m g)) (joined z))
      (sym e)
      (in_middle (has_m (also m g)) a b w (λ p i. or_left _ (orders_in m (a ++ b) o p i)) (λ p i. or_right (has_m m p) (walk_in g w x p i)))

-- The last place of a beginning is one of the group's.
pub ends_has : (g : Group) (s : List ℕ) (u : ℕ) → Ends s u → Begins g s → has g u ≡ true
ends_has g s u e (t, w) = walk_in g (s ++ t) w u (mem_left s t u (ends_mem s u e))

-- What may come next is a place of the group.
pub has_next : (g : Group) (s : List ℕ) (p : ℕ) → MayComeNext g s p → has g p ≡ true
has_next g s p b = ends_has g (s ++ p ∷ []) p (ends_snoc s p) b

-- A group meets a set if they have a place in common.

abbrev pub Common : (ℕ → Bool) → (ℕ → Bool) → Type 0
Common f S = (p : ℕ) × (f p ≡ true) × (S p ≡ true)

common_left : (f k S : ℕ → Bool) → Common f S → Common (λ (p : ℕ). f p || k p) S
common_left f k S (p, x, y) = (p, or_left _ x, y)

common_right : (f k S : ℕ → Bool) → Common k S → Common (λ (p : ℕ). f p || k p) S
common_right f k S (p, x, y) = (p, or_right (f p) x, y)

mutual
  pub meets_common : (g : Group) (S : ℕ → Bool) → meets g S ≡ true → Common (has g) S
  meets_common (place n) S e = (n, eq-eqb n n refl, e)
  meets_common (seq g h) S e = or_cases (meets g S) (meets h S) (λ x. common_left (has g) (has h) S (meets_common g S x)) (λ y. common_right (has g) (has h) S (meets_common h S y)) e
  meets_common (alt g h) S e = or_cases (meets g S) (meets h S) (λ x. common_left (has g) (has h) S (meets_common g S x)) (λ y. common_right (has g) (has h) S (meets_common h S y)) e
  meets_common (opt g) S e = meets_common g S e
  meets_common (plus g) S e = meets_common g S e
  meets_common (and m) S e = meets_m_common m S e

  meets_m_common : (m : Members) (S : ℕ → Bool) → meets_m m S ≡ true → Common (has_m m) S
  meets_m_common (one g) S e = meets_common g S e
  meets_m_common (also m g) S e = or_cases (meets_m m S) (meets g S) (λ x. common_left (has_m m) (has g) S (meets_m_common m S x)) (λ y. common_right (has_m m) (has g) S (meets_common g S y)) e

mutual
  pub common_meets : (g : Group) (S : ℕ → Bool) (p : ℕ) → has g p ≡ true → S p ≡ true → meets g S ≡ true
  common_meets (place n) S p i e = subst (λ (z : ℕ). S z ≡ true) (sym (eqb-true n p i)) e
  common_meets (seq g h) S p i e = or_cases (has g p) (has h p) (λ x. or_left _ (common_meets g S p x e)) (λ y. or_right (meets g S) (common_meets h S p y e)) i
  common_meets (alt g h) S p i e = or_cases (has g p) (has h p) (λ x. or_left _ (common_meets g S p x e)) (λ y. or_right (meets g S) (common_meets h S p y e)) i
  common_meets (opt g) S p i e = common_meets g S p i e
  common_meets (plus g) S p i e = common_meets g S p i e
  common_meets (and m) S p i e = common_m_meets m S p i e

  common_m_meets : (m : Members) (S : ℕ → Bool) (p : ℕ) → has_m m p ≡ true → S p ≡ true → meets_m m S ≡ true
  common_m_meets (one g) S p i e = common_meets g S p i e
  common_m_meets (also m g) S p i e = or_cases (has_m m p) (has g p) (λ x. or_left _ (common_m_meets m S p x e)) (λ y. or_right (meets_m m S) (common_meets g S p y e)) i
