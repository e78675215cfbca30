-- Lists of places: membership as a test, the last place, how two ways to cut a list meet; nothing about groups.
use Rattle.std.specs.Prelude.{ℕ, ◌≡◌, refl, Bool, true, false, ◌||◌, ◌⊎◌, eqb}
use Rattle.std.proofs.Common.{sym, ◌∙◌, ap, subst, inl, inr, eqb-true, eq-eqb}
use Rattle.std.proofs.lemmas.Bool.{false≢true}
use mathlib.Core.List.{List, [], ◌∷◌, ◌++◌, append_assoc, append-nil, nil≢cons, cons≢nil, head-eq_of_cons-eq, tail-eq_of_cons-eq}
use Rattle.basic_laws.specs.Truth.{or_left, or_right, or_cases, not_true}
use Rattle.rules.specs.Walk.{joined}

abbrev pub mem : List ℕ → ℕ → Bool
mem [] p = false
mem (q ∷ s) p = eqb q p || mem s p

pub mem_left : (a b : List ℕ) (p : ℕ) → mem a p ≡ true → mem (a ++ b) p ≡ true
mem_left [] b p e = absurd (false≢true e)
mem_left (q ∷ a) b p e = or_cases (eqb q p) (mem a p) (λ x. or_left _ x) (λ y. or_right (eqb q p) (mem_left a b p y)) e

pub mem_right : (a b : List ℕ) (p : ℕ) → mem b p ≡ true → mem (a ++ b) p ≡ true
mem_right [] b p e = e
mem_right (q ∷ a) b p e = or_right (eqb q p) (mem_right a b p e)

pub mem_cases : {C : Type 0} (a b : List ℕ) (p : ℕ) → (mem a p ≡ true → C) → (mem b p ≡ true → C) → mem (a ++ b) p ≡ true → C
mem_cases [] b p f g e = g e
mem_cases (q ∷ a) b p f g e = or_cases (eqb q p) (mem (a ++ b) p) (λ x. f (or_left _ x)) (mem_cases a b p (λ y. f (or_right (eqb q p) y)) g) e

pub mem_head : (p : ℕ) (s : List ℕ) → mem (p ∷ s) p ≡ true
mem_head p s = or_left _ (eq-eqb p p refl)

-- Every place of w passes the test.
abbrev pub In : (ℕ → Bool) → List ℕ → Type 0
In f w = (p : ℕ) → mem w p ≡ true → f p ≡ true

-- No place passes both tests.
abbrev pub Apart : (ℕ → Bool) → (ℕ → Bool) → Type 0
Apart f k = (p : ℕ) → f p ≡ true → k p ≡ true → ⊥

-- A place that passes the first does not pass the second.
pub apart_no : {f k : ℕ → Bool} → Apart f k → {p : ℕ} → f p ≡ true → k p ≡ false
apart_no {f} {k} a {p} i = not_true (k p) (λ j. a p i j)

pub in_append : (f : ℕ → Bool) (a b : List ℕ) → In f a → In f b → In f (a ++ b)
in_append f a b x y p = mem_cases a b p (x p) (y p)

pub in_one : (f : ℕ → Bool) (n : ℕ) → f n ≡ true → In f (n ∷ [])
in_one f n e p i = or_cases (eqb n p) false (λ x. subst (λ (z : ℕ). f z ≡ true) (eqb-true n p x) e) (λ y. absurd (false≢true y)) i

-- The list is not empty and its last place is u.
abbrev pub Ends : List ℕ → ℕ → Type 0
Ends [] u = ⊥
Ends (p ∷ s) u = ((s ≡ []) × (p ≡ u)) ⊎ Ends s u

pub ends_snoc : (r : List ℕ) (u : ℕ) → Ends (r ++ u ∷ []) u
ends_snoc [] u = inl (refl, refl)
ends_snoc (p ∷ r) u = inr (ends_snoc r u)

pub ends_append : (a b : List ℕ) (u : ℕ) → Ends b u → Ends (a ++ b) u
ends_append [] b u e = e
ends_append (p ∷ a) b u e = inr (ends_append a b u e)

-- The last place of two lists is the last of the second, unless that is empty.
pub ends_split : (a b : List ℕ) (u : ℕ) → Ends (a ++ b) u → ((b ≡ []) × Ends a u) ⊎ Ends b u
ends_split [] b u e = inr e
ends_split (p ∷ a) b u (inl (n, e)) = here a b n
  where
    here : (a b : List ℕ) → a ++ b ≡ [] → ((b ≡ []) × (((a ≡ []) × (p ≡ u)) ⊎ Ends a u)) ⊎ Ends b u
    here [] b n = inl (n, inl (refl, e))
    here (x ∷ a) b n = absurd (cons≢nil n)
ends_split (p ∷ a) b u (inr e) = up (ends_split a b u e)
  where
    up : ((b ≡ []) × Ends a u) ⊎ Ends b u → ((b ≡ []) × (((a ≡ []) × (p ≡ u)) ⊎ Ends a u)) ⊎ Ends b u
    up (inl (n, x)) = inl (n, inr x)
    up (inr x) = inr x

pub ends_mem : (s : List ℕ) (u : ℕ) → Ends s u → mem s u ≡ true
ends_mem [] u e = absurd e
ends_mem (p ∷ s) u (inl (n, e)) = or_left _ (eq-eqb p u e)
ends_mem (p ∷ s) u (inr e) = or_right (eqb p u) (ends_mem s u e)

pub ends_some : (s : List ℕ) (u : ℕ) → Ends s u → s ≡ [] → ⊥
ends_some [] u e n = e
ends_some (p ∷ s) u e n = cons≢nil n

-- A list with something in it is not empty.
pub nil≢middle : {A : Type 0} (x : List A) (y : A) (c : List A) → [] ≡ x ++ y ∷ c → ⊥
nil≢middle [] y c r = nil≢cons r
nil≢middle (h ∷ x) y c r = nil≢cons r

-- Two ways to cut one list.
abbrev pub Cuts : {A : Type 0} → List A → List A → List A → List A → Type 0
Cuts {A} s t a b = ((c : List A) × (s ≡ a ++ c) × (b ≡ c ++ t)) ⊎ ((c : List A) × (a ≡ s ++ c) × (t ≡ c ++ b))

pub cuts : {A : Type 0} (s t a b : List A) → s ++ t ≡ a ++ b → Cuts s t a b
cuts [] t a b e = inr (a, refl, e)
cuts (x ∷ s) t [] b e = inl (x ∷ s, refl, sym e)
cuts {A} (x ∷ s) t (y ∷ a) b e = up (cuts s t a b (tail-eq_of_cons-eq e)) (head-eq_of_cons-eq e)
  where
    up : Cuts s t a b → x ≡ y → Cuts (x ∷ s) t (y ∷ a) b
    up (inl (c, p, q)) z = inl (c, rw (p, z), q)
    up (inr (c, p, q)) z = inr (c, rw (p, z), q)

-- Sequences are joined.

pub joined_append : (a b : List (List ℕ)) → joined (a ++ b) ≡ joined a ++ joined b
joined_append [] b = refl
joined_append (w ∷ a) b = ap (◌++◌ w) (joined_append a b) ∙ sym (append_assoc w (joined a) (joined b))

-- Where a place is the last of s, which begins the joined sequences, it stands in one of them.
abbrev pub Inside : List ℕ → List ℕ → List (List ℕ) → ℕ → Type 0
Inside s t bs u = (x : List (List ℕ)) × (v : List ℕ) × (z : List ℕ) × (y : List (List ℕ)) × (bs ≡ x ++ (v ++ z) ∷ y) × (s ≡ joined x ++ v) × (t ≡ z ++ joined y) × Ends v u

pub inside : (bs : List (List ℕ)) (s t : List ℕ) (u : ℕ) → Ends s u → s ++ t ≡ joined bs → Inside s t bs u
inside [] [] t u e q = absurd e
inside [] (p ∷ s) t u e q = absurd (cons≢nil q)
inside (w ∷ bs) s t u e q = go (λ c k m. inside bs c t u k m) (cuts s t w (joined bs) q)
  where
    deeper : (c : List ℕ) → s ≡ w ++ c → Inside c t bs u → Inside s t (w ∷ bs) u
    deeper c n (x, v, z, y, i, j, k, l) = (w ∷ x, v, z, y, ap (◌∷◌ w) i, n ∙ ap (◌++◌ w) j ∙ sym (append_assoc w (joined x) v), k, l)

    last : ((c : List ℕ) → Ends c u → c ++ t ≡ joined bs → Inside c t bs u) → (c : List ℕ) → s ≡ w ++ c → joined bs ≡ c ++ t → ((c ≡ []) × Ends w u) ⊎ Ends c u → Inside s t (w ∷ bs) u
    last f c n m (inl (d, k)) = ([], w, [], bs, rw append-nil, n ∙ rw (d, append-nil), sym (m ∙ rw d), k)
    last f c n m (inr k) = deeper c n (f c k (sym m))

    go : ((c : List ℕ) → Ends c u → c ++ t ≡ joined bs → Inside c t bs u) → Cuts s t w (joined bs) → Inside s t (w ∷ bs) u
    go f (inl (c, n, m)) = last f c n m (ends_split w c u (rw n at e))
    go f (inr (c, n, m)) = ([], s, c, bs, rw n, refl, m, e)

-- A place that begins joined sequences begins one of them.
abbrev pub Starts : List (List ℕ) → ℕ → Type 0
Starts bs p = (x : List (List ℕ)) × (z : List ℕ) × (y : List (List ℕ)) × (bs ≡ x ++ (p ∷ z) ∷ y)

pub starts : (bs : List (List ℕ)) (p : ℕ) (t : List ℕ) → p ∷ t ≡ joined bs → Starts bs p
starts [] p t e = absurd (cons≢nil e)
starts ([] ∷ bs) p t e = let (x, z, y, q) = starts bs p t e in ([] ∷ x, z, y, ap (◌∷◌ []) q)
starts ((n ∷ w) ∷ bs) p t e = ([], w, bs, rw (head-eq_of_cons-eq e))
