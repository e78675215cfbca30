-- Arrangements of any kind of sequence, one for each member: when they can be empty, begin with p, must pass p; by one test a member.
use Rattle.std.specs.Prelude.{ℕ, ◌≡◌, refl, Bool, true, false, ◌&&◌, ◌||◌, List, [], ◌∷◌, ◌++◌}
use Rattle.std.proofs.Common.{sym, ◌∙◌, ap, subst, append_assoc, append-nil}
use Rattle.basic_laws.specs.Truth.{or_left, or_right, or_cases, and_left, and_right, and_both, or_none}
use Rattle.rules.specs.Walk.{Group, Members, one, also, joined}
use Rattle.and_laws.specs.Base.{mem, mem_left, mem_right, mem_cases, joined_append, starts, nil≢middle}
use Rattle.and_laws.specs.Blocks.{block, Arr, joined_block, At, before, here, after, at_block}
use Rattle.and_laws.specs.Later.{nil_parts}

abbrev pub all_m : (Group → Bool) → Members → Bool
all_m t (one g) = t g
all_m t (also m g) = all_m t m && t g

abbrev pub any_m : (Group → Bool) → Members → Bool
any_m t (one g) = t g
any_m t (also m g) = any_m t m || t g

joined_put : (a b : List (List ℕ)) (w : List ℕ) → joined (a ++ (block w ++ b)) ≡ joined a ++ (w ++ joined b)
joined_put a b w = joined_append a (block w ++ b) ∙ ap (◌++◌ (joined a)) (joined_block w b)

joined_own : (w : List ℕ) → joined (block w) ≡ w
joined_own w = ap joined (sym (append-nil (block w))) ∙ joined_block w [] ∙ append-nil w

module _ (P : Group → List ℕ → Type 0) where
  pub arr_some : ((g : Group) → (w : List ℕ) × P g w) → (m : Members) → (bs : List (List ℕ)) × Arr P m bs
  arr_some f (one g) = let (w, x) = f g in (block w, (w, refl, x))
  arr_some f (also m g) =
      let (w, x) = f g in
      let (bs, o) = arr_some f m in
      (block w ++ bs, ([], bs, w, refl, o, x))

  pub arr_empty : (t : Group → Bool) → ((g : Group) → P g [] → t g ≡ true) → (m : Members) (bs : List (List ℕ)) → [] ≡ joined bs → Arr P m bs → all_m t m ≡ true
  arr_empty t f (one g) bs e (w, q, x) = f g (subst (P g) (sym (e ∙ ap joined q ∙ joined_own w)) x)
  arr_empty t f (also m g) bs e (a, b, w, q, o, x) =
      let i = nil_parts (joined a) (w ++ joined b) (e ∙ ap joined q ∙ joined_put a b w) in
      let j = nil_parts w (joined b) (sym i.1) in
      and_both (arr_empty t f m (a ++ b) (sym (joined_append a b ∙ ap (λ (l : List ℕ). l ++ joined b) i.0 ∙ j.1)) o) (f g (subst (P g) j.0 x))

  pub empty_arr : (t : Group → Bool) → ((g : Group) → t g ≡ true → P g []) → (m : Members) → all_m t m ≡ true → Arr P m []
  empty_arr t f (one g) e = ([], refl, f g e)
  empty_arr t f (also m g) e = ([], [], [], refl, empty_arr t f m (and_left (all_m t m) _ e), f g (and_right (all_m t m) _ e))

  arr_block : (t : Group → Bool) (p : ℕ) → ((g : Group) (z : List ℕ) → P g (p ∷ z) → t g ≡ true) → (m : Members) (x : List (List ℕ)) (z : List ℕ) (y : List (List ℕ)) → Arr P m (x ++ (p ∷ z) ∷ y) → any_m t m ≡ true
  arr_block t p f (one g) x z y (w, e, n) = go (at_block [] [] w x (p ∷ z) y (append-nil (block w) ∙ sym e))
    where
      go : At [] [] w x (p ∷ z) y → t g ≡ true
      go (before c i j) = absurd (nil≢middle c (p ∷ z) y j)
      go (here i j k) = f g z (subst (P g) i n)
      go (after c i j) = absurd (nil≢middle x (p ∷ z) c j)
  arr_block t p f (also m g) x z y (a, b, w, e, o, n) = go (λ x y o. arr_block t p f m x z y o) (at_block a b w x (p ∷ z) y (sym e))
    where
      go : ((x y : List (List ℕ)) → Arr P m (x ++ (p ∷ z) ∷ y) → any_m t m ≡ true) → At a b w x (p ∷ z) y → any_m t (also m g) ≡ true
      go k (before c i j) = or_left _ (k (a ++ c) y (subst (Arr P m) (ap (◌++◌ a) j ∙ sym (append_assoc a c ((p ∷ z) ∷ y))) o))
      go k (here i j l) = or_right (any_m t m) (f g z (subst (P g) i n))
      go k (after c i j) = or_left _ (k x (c ++ b) (subst (Arr P m) (ap (λ (l : List (List ℕ)). l ++ b) j ∙ append_assoc x ((p ∷ z) ∷ c) b) o))

  pub arr_starts : (t : Group → Bool) (p : ℕ) → ((g : Group) (z : List ℕ) → P g (p ∷ z) → t g ≡ true) → (m : Members) (bs : List (List ℕ)) (z : List ℕ) → p ∷ z ≡ joined bs → Arr P m bs → any_m t m ≡ true
  arr_starts t p f m bs z e o = let (x, v, y, q) = starts bs p z e in arr_block t p f m x v y (subst (Arr P m) q o)

  pub starts_arr : (t : Group → Bool) (p : ℕ) → ((g : Group) → t g ≡ true → (z : List ℕ) × P g (p ∷ z)) → ((g : Group) → (w : List ℕ) × P g w) → (m : Members) → any_m t m ≡ true → (z : List ℕ) × (bs : List (List ℕ)) × Arr P m ((p ∷ z) ∷ bs)
  starts_arr t p f k (one g) e = let (z, x) = f g e in (z, [], (p ∷ z, refl, x))
  starts_arr t p f k (also m g) e = or_cases (any_m t m) _ (λ i. old (starts_arr t p f k m i) (k g)) (λ i. new (f g i) (arr_some k m)) e
    where
      old : (z : List ℕ) × (bs : List (List ℕ)) × Arr P m ((p ∷ z) ∷ bs) → (w : List ℕ) × P g w → (z : List ℕ) × (bs : List (List ℕ)) × Arr P (also m g) ((p ∷ z) ∷ bs)
      old (z, bs, o) (w, x) = (z, block w ++ bs, ((p ∷ z) ∷ [], bs, w, refl, o, x))

      new : (z : List ℕ) × P g (p ∷ z) → (bs : List (List ℕ)) × Arr P m bs → (z : List ℕ) × (bs : List (List ℕ)) × Arr P (also m g) ((p ∷ z) ∷ bs)
      new (z, x) (bs, o) = (z, bs, ([], bs, p ∷ z, refl, o, x))

  pub arr_passes : (t : Group → Bool) (p : ℕ) → ((g : Group) (w : List ℕ) → t g ≡ true → P g w → mem w p ≡ true) → (m : Members) (bs : List (List ℕ)) → any_m t m ≡ true → Arr P m bs → mem (joined bs) p ≡ true
  arr_passes t p f (one g) bs e (w, q, x) = subst (λ (l : List ℕ). mem l p ≡ true) (sym (ap joined q ∙ joined_own w)) (f g w e x)
  arr_passes t p f (also m g) bs e (a, b, w, q, o, x) =
      subst
      (λ (l : List ℕ). mem l p ≡ true)
      (sym (ap joined q ∙ joined_put a b w))
      (or_cases
      (any_m t m)
      _
      (λ i. mem_cases (joined a) (joined b) p (mem_left (joined a) (w ++ joined b) p) (λ j. mem_right (joined a) (w ++ joined b) p (mem_right w (joined b) p j)) (rw joined_append at (arr_passes t p f m (a ++ b) i o)))
      (λ i. mem_right (joined a) (w ++ joined b) p (mem_left w (joined b) p (f g w i x)))
      e)

  pub arr_avoids : (t : Group → Bool) (p : ℕ) → ((g : Group) → t g ≡ false → (w : List ℕ) × P g w × (mem w p ≡ true → ⊥)) → (m : Members) → any_m t m ≡ false → (bs : List (List ℕ)) × Arr P m bs × (mem (joined bs) p ≡ true → ⊥)
  arr_avoids t p f (one g) e = let (w, x, n) = f g e in (block w, (w, refl, x), λ i. n (subst (λ (l : List ℕ). mem l p ≡ true) (joined_own w) i))
  arr_avoids t p f (also m g) e =
      let (w, x, n) = f g (or_none (any_m t m) (t g) e).1 in
      let (bs, o, k) = arr_avoids t p f m (or_none (any_m t m) (t g) e).0 in
      (block w ++ bs, ([], bs, w, refl, o, x), λ i. mem_cases w (joined bs) p n k (rw joined_block at i))
