-- A walk through "&" as its sequences that are not empty, in order (`Arr`): the same walks; where a member's sequence stands among others.
use Rattle.std.specs.Prelude.{ℕ, ◌≡◌, refl}
use Rattle.std.proofs.Common.{sym, ◌∙◌, ap, subst, inl, inr}
use mathlib.Core.List.{List, [], ◌∷◌, ◌++◌, append_assoc, append-nil, head-eq_of_cons-eq, tail-eq_of_cons-eq}
use Rattle.model_sets.specs.Sets.{has_m}
use Rattle.rules.specs.Walk.{Group, and, Members, one, also, joined, Walk, Orders}
use Rattle.and_laws.specs.Base.{In, Ends, Cuts, cuts, joined_append}
use Rattle.and_laws.specs.Sets.{walk_in}

-- A sequence is a list of one, and of none if it is empty.
abbrev pub block : List ℕ → List (List ℕ)
block [] = []
block (p ∷ w) = (p ∷ w) ∷ []

abbrev pub dense : List (List ℕ) → List (List ℕ)
dense [] = []
dense (w ∷ bs) = block w ++ dense bs

-- There is a sequence of P for each member, in any order, with the empty ones left out.
abbrev pub Arr : (Group → List ℕ → Type 0) → Members → List (List ℕ) → Type 0
Arr P (one g) bs = (w : List ℕ) × (bs ≡ block w) × P g w
Arr P (also m g) bs = (a : List (List ℕ)) × (b : List (List ℕ)) × (w : List ℕ) × (bs ≡ a ++ (block w ++ b)) × Arr P m (a ++ b) × P g w

dense_append : (a b : List (List ℕ)) → dense (a ++ b) ≡ dense a ++ dense b
dense_append [] b = refl
dense_append (w ∷ a) b = ap (◌++◌ (block w)) (dense_append a b) ∙ sym (append_assoc (block w) (dense a) (dense b))

pub joined_block : (w : List ℕ) (b : List (List ℕ)) → joined (block w ++ b) ≡ w ++ joined b
joined_block [] b = refl
joined_block (p ∷ w) b = refl

joined_dense : (bs : List (List ℕ)) → joined (dense bs) ≡ joined bs
joined_dense [] = refl
joined_dense (w ∷ bs) = joined_block w (dense bs) ∙ ap (◌++◌ w) (joined_dense bs)

pub block_some : (v z : List ℕ) (u : ℕ) → Ends v u → block (v ++ z) ≡ (v ++ z) ∷ []
block_some [] z u e = absurd e
block_some (p ∷ v) z u e = refl

orders_arr : (m : Members) (bs : List (List ℕ)) → Orders m bs → Arr Walk m (dense bs)
orders_arr (one g) bs (w, e, x) = (w, ap dense e ∙ append-nil (block w), x)
orders_arr (also m g) bs (a, b, w, e, o, x) = (dense a, dense b, w, ap dense e ∙ dense_append a (w ∷ b), subst (Arr Walk m) (dense_append a b) (orders_arr m (a ++ b) o), x)

abbrev Padded : Members → List (List ℕ) → Type 0
Padded m bs = (c : List (List ℕ)) × (joined c ≡ []) × Orders m (c ++ bs)

arr_orders : (m : Members) (bs : List (List ℕ)) → Arr Walk m bs → Padded m bs
arr_orders (one g) bs ([], e, x) = ([] ∷ [], refl, ([], ap (◌∷◌ []) e, x))
arr_orders (one g) bs (p ∷ w, e, x) = ([], refl, (p ∷ w, e, x))
arr_orders (also m g) bs (a, b, [], e, o, x) = pad (arr_orders m (a ++ b) o)
  where
    pad : Padded m (a ++ b) → Padded (also m g) bs
    pad (c, j, k) = ([] ∷ c, j, ([], c ++ bs, [], refl, subst (λ (z : List (List ℕ)). Orders m (c ++ z)) (sym e) k, x))
arr_orders (also m g) bs (a, b, p ∷ w, e, o, x) = pad (arr_orders m (a ++ b) o)
  where
    pad : Padded m (a ++ b) → Padded (also m g) bs
    pad (c, j, k) = (c, j, (c ++ a, b, p ∷ w, ap (◌++◌ c) e ∙ sym (append_assoc c a ((p ∷ w) ∷ b)), subst (Orders m) (sym (append_assoc c a b)) k, x))

pub walk_arr : (m : Members) (w : List ℕ) → Walk (and m) w → (bs : List (List ℕ)) × (w ≡ joined bs) × Arr Walk m bs
walk_arr m w (bs, e, o) = (dense bs, e ∙ sym (joined_dense bs), orders_arr m bs o)

pub arr_walk : (m : Members) (bs : List (List ℕ)) → Arr Walk m bs → Walk (and m) (joined bs)
arr_walk m bs o = done (arr_orders m bs o)
  where
    done : Padded m bs → Walk (and m) (joined bs)
    done (c, j, k) = (c ++ bs, sym (joined_append c bs ∙ ap (λ (z : List ℕ). z ++ joined bs) j), k)

pub arr_in : (m : Members) (bs : List (List ℕ)) → Arr Walk m bs → In (has_m m) (joined bs)
arr_in m bs o = walk_in (and m) (joined bs) (arr_walk m bs o)

-- Where a sequence stands: in the first part or in the second.
pub data Where (a b : List (List ℕ)) (w : List ℕ) (x z : List (List ℕ)) : Type 0 where
  early : (c : List (List ℕ)) → x ≡ a ++ (block w ++ c) → b ≡ c ++ z → Where a b w x z
  late : (c : List (List ℕ)) → z ≡ c ++ (block w ++ b) → a ≡ x ++ c → Where a b w x z

pub where_block : (a b : List (List ℕ)) (w : List ℕ) (x z : List (List ℕ)) → a ++ (block w ++ b) ≡ x ++ z → Where a b w x z
where_block a b [] x z e = go (cuts a b x z e)
  where
    go : Cuts a b x z → Where a b [] x z
    go (inl (c, p, q)) = late c q p
    go (inr (c, p, q)) = early c p q
where_block a b (n ∷ w) x z e = go (cuts a ((n ∷ w) ∷ b) x z e)
  where
    up : (c : List (List ℕ)) → x ≡ a ++ c → (n ∷ w) ∷ b ≡ c ++ z → Where a b (n ∷ w) x z
    up [] p q = late [] (sym q) (sym (append-nil a) ∙ sym p ∙ sym (append-nil x))
    up (y ∷ c) p q = early c (p ∙ rw (head-eq_of_cons-eq q)) (tail-eq_of_cons-eq q)

    go : Cuts a ((n ∷ w) ∷ b) x z → Where a b (n ∷ w) x z
    go (inl (c, p, q)) = late c q p
    go (inr (c, p, q)) = up c p q

-- The sequence stands before one of them, is that one, or stands after it.
pub data At (a b : List (List ℕ)) (w : List ℕ) (x : List (List ℕ)) (v : List ℕ) (z : List (List ℕ)) : Type 0 where
  before : (c : List (List ℕ)) → x ≡ a ++ (block w ++ c) → b ≡ c ++ v ∷ z → At a b w x v z
  here : w ≡ v → a ≡ x → b ≡ z → At a b w x v z
  after : (c : List (List ℕ)) → z ≡ c ++ (block w ++ b) → a ≡ x ++ v ∷ c → At a b w x v z

pub at_block : (a b : List (List ℕ)) (w : List ℕ) (x : List (List ℕ)) (v : List ℕ) (z : List (List ℕ)) → a ++ (block w ++ b) ≡ x ++ v ∷ z → At a b w x v z
at_block a b w x v z e = go (where_block a b w x (v ∷ z) e)
  where
    first : (w : List ℕ) → v ∷ z ≡ block w ++ b → a ≡ x ++ [] → At a b w x v z
    first [] q p = before [] (sym (append-nil x) ∙ sym p ∙ sym (append-nil a)) (sym q)
    first (n ∷ w) q p = here (sym (head-eq_of_cons-eq q)) (p ∙ append-nil x) (sym (tail-eq_of_cons-eq q))

    up : (c : List (List ℕ)) → v ∷ z ≡ c ++ (block w ++ b) → a ≡ x ++ c → At a b w x v z
    up [] q p = first w q p
    up (y ∷ c) q p = after c (tail-eq_of_cons-eq q) (p ∙ rw (head-eq_of_cons-eq q))

    go : Where a b w x (v ∷ z) → At a b w x v z
    go (early c p q) = before c p q
    go (late c q p) = up c q p
