-- Laws of a model's places, as the code keeps them, and of the names that they share.
use Rattle.std.specs.Prelude.{ℕ, zero, suc, ◌+◌, ◌-◌, ◌*◌, ◌≤◌, ◌<◌, ◌≡◌, refl, Bool, false, List, [], ◌∷◌, ◌++◌, length, get_or, set}
use Rattle.std.proofs.Common.{sym, ◌∙◌, not-suc-le-zero, add-one, arith, length-append, length-set, get_or-set_same, get_or-set_other, eq-eqb, ne_eqb}
use Rattle.std.proofs.Math.Decide.{ℕ_discrete}
use Rattle.rules.specs.Bytes.{byte_at, fold, same_text}
use Rattle.rules.specs.TypeFile.{Place, same_name}
use Rattle.rules.specs.Judge.{place_at, same_place}
use Rattle.rules_laws.specs.Names.{place_at_append, place_at_next}
use Rattle.model_names.specs.Places.{place_in, places_of, middle, key_of}

-- The first n places of a table.
pub places_of_length : (names : List ℕ) (n : ℕ) → length (places_of names n) ≡ n
unfolding places_of
places_of_length names zero = refl
places_of_length names (suc n) =
    length-append (places_of names n) (place_in names n ∷ []) ∙ omega (arith, places_of_length names n)

pub place_at_places_of : (names : List ℕ) (n k : ℕ) → k < n → place_at (places_of names n) k ≡ place_in names k
unfolding places_of
place_at_places_of names zero k h = absurd (not-suc-le-zero h)
place_at_places_of names (suc n) k h = by_place (ℕ_discrete k n) (λ l. place_at_places_of names n k l)
  where
    by_place : Dec (k ≡ n) → (k < n → place_at (places_of names n) k ≡ place_in names k) → place_at (places_of names (suc n)) k ≡ place_in names k
    by_place (yes e) ih = rw e (place_at_next (places_of names n) (place_in names n) [] n (sym (places_of_length names n)))
    by_place (no ne) ih =
        let l : k < n = omega arith in
        place_at_append (places_of names n) (place_in names n ∷ []) k (omega (arith, places_of_length names n)) ∙ ih l

-- They are the same in two tables that agree on their numbers.
pub places_of_ext : (names other : List ℕ) (n : ℕ) → ((j : ℕ) → j < 2 * n → get_or names j 0 ≡ get_or other j 0) → places_of names n ≡ places_of other n
unfolding places_of
places_of_ext names other zero e = refl
places_of_ext names other (suc n) e =
    rw (places_of_ext names other n (λ j h. e j (omega arith)), e (2 * n) (omega arith), e (2 * n + 1) (omega arith))

-- The next place is written down behind them.
pub places_of_put : (names : List ℕ) (n at size : ℕ) → 2 * n + 1 < length names
    → places_of (set (set names (2 * n) at) (2 * n + 1) size) (n + 1) ≡ places_of names n ++ record { at = at; size = size } ∷ []
unfolding places_of
places_of_put names n at size h =
    let first : List ℕ = set names (2 * n) at in
    let l : 2 * n + 1 < length first = omega (arith, length-set names (2 * n) at) in
    let kept : places_of (set first (2 * n + 1) size) n ≡ places_of names n =
    places_of_ext (set first (2 * n + 1) size) names n
    (λ j k. get_or-set_other first (2 * n + 1) j size 0 (omega arith) ∙ get_or-set_other names (2 * n) j at 0 (omega arith)) in
    let stands : get_or (set first (2 * n + 1) size) (2 * n) 0 ≡ at =
    get_or-set_other first (2 * n + 1) (2 * n) size 0 (omega arith) ∙ get_or-set_same names (2 * n) at 0 (omega arith) in
    let long : get_or (set first (2 * n + 1) size) (2 * n + 1) 0 ≡ size = get_or-set_same first (2 * n + 1) size 0 l in
    rw (add-one n, places_of, kept, stands, long)

-- Places with the same name.

-- Whether two places have the same name, from what is read of them: each is where it stands and how long it is.
module _ (s names : List ℕ) (n p q : ℕ) (p_from : 1 ≤ p) (p_to : p ≤ n) (q_from : 1 ≤ q) (q_to : q ≤ n) where
  pub same_places : same_place s (places_of names n) p q
      ≡ same_name s (place_in names (p - 1)).at (place_in names (p - 1)).size (place_in names (q - 1)).at (place_in names (q - 1)).size
  same_places = rw (place_at_places_of names n (p - 1) (omega arith), place_at_places_of names n (q - 1) (omega arith))

  module _ (a m b k : ℕ) (pa : a ≡ (place_in names (p - 1)).at) (pm : m ≡ (place_in names (p - 1)).size) (qb : b ≡ (place_in names (q - 1)).at) (qk : k ≡ (place_in names (q - 1)).size) where
    pub read_places : same_place s (places_of names n) p q ≡ same_name s a m b k
    read_places = rw (pa, pm, qb, qk) same_places

    pub same_sizes : (r : Bool) → m ≡ k → r ≡ same_text s a s b m → r ≡ same_place s (places_of names n) p q
    same_sizes r e t = rw (read_places, eq-eqb m k e, same_name, ← e) t

    pub other_sizes : (m ≡ k → ⊥) → false ≡ same_place s (places_of names n) p q
    other_sizes ne = rw (read_places, ne_eqb m k ne, same_name)

-- The key of a place, from what is read of it.
pub key_none : (s : List ℕ) (x : Place) → x.size ≡ 0 → 0 ≡ key_of s x
unfolding key_of
key_none s x e = rw (eq-eqb x.size 0 e, key_of)

pub key_some : (s : List ℕ) (x : Place) (n at a b c : ℕ) → n ≡ x.size → (n ≡ 0 → ⊥) → at ≡ x.at
    → a ≡ fold (byte_at s at) → b ≡ fold (byte_at s (at + (n - 1))) → c ≡ fold (byte_at s (at + middle n)) → (a * 256 + b) * 256 + c ≡ key_of s x
unfolding key_of
key_some s x n at a b c e ne f g h i = rw (key_of, ← e, ← f, ne_eqb n 0 ne, g, h, i)
