-- A range of the table filled with 0 is one whose numbers are set to 0 in turn.
use Rattle.std.specs.Prelude.{ℕ, zero, suc, ◌+◌, ◌*◌, ◌≤◌, ◌≡◌, List, [], ◌∷◌, ◌++◌, length, take, drop, set, replicate}
use Rattle.std.proofs.Common.{sym, ap, ◌∙◌, append_assoc, arith, length-set, length-drop, length-take-le, take-append-drop, drop-drop}
use Rattle.std.proofs.lemmas.List.{take_more_set, drop-set-lt}
use borrow.Rule.Slice.PartMut.{put_mid}
use Rattle.layout.specs.Sizes.{MODEL_ROW}
use Rattle.model_links.specs.Each.{turns, each}
use Rattle.model_links.specs.Links.{clear_cell, clear_row}

zeros : (u : ℕ) (T : List ℕ) (i k : ℕ) → u * MODEL_ROW + i + k ≤ length T
    → turns (clear_cell u) T i k ≡ take (u * MODEL_ROW + i) T ++ (replicate k 0 ++ drop (u * MODEL_ROW + i + k) T)
unfolding turns clear_cell
zeros u T i zero h = let e : u * MODEL_ROW + i + 0 ≡ u * MODEL_ROW + i = omega arith in rw e (sym (take-append-drop (u * MODEL_ROW + i) T))
zeros u T i (suc k) h =
    let at : ℕ = u * MODEL_ROW + i in
    let S : List ℕ = set T at 0 in
    let e : u * MODEL_ROW + (i + 1) ≡ at + 1 = omega arith in
    let f : u * MODEL_ROW + (i + 1) + k ≡ at + suc k = omega arith in
    let on : turns (clear_cell u) S (i + 1) k ≡ take (u * MODEL_ROW + (i + 1)) S ++ (replicate k 0 ++ drop (u * MODEL_ROW + (i + 1) + k) S) =
    zeros u S (i + 1) k (omega (arith, length-set T at 0)) in
    let front : take (at + 1) S ≡ take at T ++ 0 ∷ [] = take_more_set T at 0 (omega arith) in
    let back : drop (at + suc k) S ≡ drop (at + suc k) T = drop-set-lt (at + suc k) T at 0 (omega arith) in
    on ∙ ap (λ (n : ℕ). take n S ++ (replicate k 0 ++ drop (u * MODEL_ROW + (i + 1) + k) S)) e
    ∙ ap (λ (n : ℕ). take (at + 1) S ++ (replicate k 0 ++ drop n S)) f
    ∙ rw (front, back) (append_assoc (take at T) (0 ∷ []) (replicate k 0 ++ drop (at + suc k) T))

pub row_zeros : (T : List ℕ) (u n : ℕ) (Z : List ℕ) → (u + 1) * MODEL_ROW ≤ length T → n ≡ MODEL_ROW → Z ≡ replicate (length (take n (drop (u * MODEL_ROW) T))) 0
    → put_mid (u * MODEL_ROW) n T Z ≡ clear_row T u
unfolding each
row_zeros T u n Z h e z =
    let at : ℕ = u * MODEL_ROW in
    let f : at + 0 ≡ at = omega arith in
    let l : length (take n (drop at T)) ≡ MODEL_ROW = length-take-le n (drop at T) (omega (arith, length-drop at T)) ∙ e in
    rw (z, l, e, drop-drop) (sym (rw f at (zeros u T 0 MODEL_ROW (omega arith))))
