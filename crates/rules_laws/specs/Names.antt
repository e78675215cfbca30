-- Laws of a model's places in a list, and of the names that they share.
use Rattle.std.specs.Prelude.{ℕ, zero, suc, ◌-◌, ◌<◌, ◌≡◌, refl, Bool, true, false, List, [], ◌∷◌, ◌++◌, length, eqb}
use Rattle.std.proofs.Common.{sym, true≢false, not-suc-le-zero, le_of_suc-le-suc, eq-eqb, eqb-true}
use Rattle.rules.specs.Bytes.{same_text}
use Rattle.rules.specs.TypeFile.{Place, same_name}
use Rattle.rules.specs.Judge.{place_at, same_place}
use Rattle.text.specs.Words.{same_text_refl, same_text_sym}

-- A place of a list to which others are added: one of the list, or the next one.
pub place_at_append : (ps qs : List Place) (k : ℕ) → k < length ps → place_at (ps ++ qs) k ≡ place_at ps k
unfolding place_at
place_at_append [] qs k h = absurd (not-suc-le-zero h)
place_at_append (x ∷ ps) qs zero h = refl
place_at_append (x ∷ ps) qs (suc k) h = place_at_append ps qs k (le_of_suc-le-suc h)

pub place_at_length : (ps : List Place) (x : Place) (qs : List Place) → place_at (ps ++ x ∷ qs) (length ps) ≡ x
unfolding place_at
place_at_length [] x qs = refl
place_at_length (y ∷ ps) x qs = place_at_length ps x qs

pub place_at_next : (ps : List Place) (x : Place) (qs : List Place) (k : ℕ) → k ≡ length ps → place_at (ps ++ x ∷ qs) k ≡ x
place_at_next ps x qs k e = rw e (place_at_length ps x qs)

-- Places may have the same name.

-- Two names that are the same are equally long and the same text.
pub same_name_split : (s : List ℕ) (a m b n : ℕ) → same_name s a m b n ≡ true → (m ≡ n) × (same_text s a s b n ≡ true)
same_name_split s a m b n r = by_test (eqb m n) refl
  where
    by_test : (c : Bool) → eqb m n ≡ c → (m ≡ n) × (same_text s a s b n ≡ true)
    by_test true e = (eqb-true m n e, rw (e, same_name) at r)
    by_test false e = absurd (true≢false (sym (rw (e, same_name) at r)))

pub same_name_join : (s : List ℕ) (a m b n : ℕ) → m ≡ n → same_text s a s b n ≡ true → same_name s a m b n ≡ true
same_name_join s a m b n e r = rw (eq-eqb m n e, same_name) r

pub same_place_refl : (s : List ℕ) (ps : List Place) (p : ℕ) → same_place s ps p p ≡ true
same_place_refl s ps p =
    let x = place_at ps (p - 1) in
    same_name_join s x.at x.size x.at x.size refl (same_text_refl s x.at x.size)

pub same_place_sym : (s : List ℕ) (ps : List Place) (p q : ℕ) → same_place s ps p q ≡ true → same_place s ps q p ≡ true
same_place_sym s ps p q r =
    let x = place_at ps (p - 1) in
    let y = place_at ps (q - 1) in
    let (e, t) = same_name_split s x.at x.size y.at y.size r in
    same_name_join s y.at y.size x.at x.size (sym e) (rw e (same_text_sym s x.at s y.at y.size t))
