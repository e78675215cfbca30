-- Places with the same name share their key: a place whose key differs need not be compared.
use Rattle.std.specs.Prelude.{ℕ, zero, suc, ◌-◌, ◌≤◌, ◌<◌, ◌≡◌, true, List}
use Rattle.std.proofs.Common.{sym, ◌∙◌, arith}
use Rattle.std.proofs.Math.Dec.{eqb-suc-zero}
use Rattle.rules.specs.Bytes.{same_text}
use Rattle.rules.specs.Judge.{same_place}
use Rattle.text.specs.Words.{same_text_at, same_text_first, same_text_last}
use Rattle.rules_laws.specs.Names.{same_name_split}
use Rattle.model_names.specs.Places.{place_in, places_of, middle, key_of}
use Rattle.model_names.specs.Shared.{same_places}

-- Places with the same name share their key.
pub same_key : (s : List ℕ) (a b m n : ℕ) → m ≡ n → same_text s a s b n ≡ true → key_of s (record { at = a; size = m }) ≡ key_of s (record { at = b; size = n })
unfolding key_of
same_key s a b m zero e t = rw e
same_key s a b m (suc n) e t =
    let z : suc n - 1 ≡ n = omega arith in
    let within : middle (suc n) < suc n = omega arith in
    rw (e, key_of, eqb-suc-zero n, z, same_text_first s a s b n t, same_text_last s a s b n t, same_text_at s a s b (suc n) (middle (suc n)) t within)

pub key_differs : (s names : List ℕ) (n p q : ℕ) → 1 ≤ p → p ≤ n → 1 ≤ q → q ≤ n → same_place s (places_of names n) p q ≡ true → key_of s (place_in names (p - 1)) ≡ key_of s (place_in names (q - 1))
key_differs s names n p q a b c d r =
    let x = place_in names (p - 1) in
    let y = place_in names (q - 1) in
    let (e, t) = same_name_split s x.at x.size y.at y.size (sym (same_places s names n p q a b c d) ∙ r) in
    same_key s x.at y.at x.size y.size e t
