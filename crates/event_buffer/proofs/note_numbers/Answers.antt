-- `note_numbers` meets its contract: the five stores are the event's numbers.
use Prim.Native.Nat.{◌*◌}
use mathlib.Core.Path.{sym, ◌∙◌}
use mathlib.Core.List.{◌∷◌, []}
use native.Mathlib.Omega.{arith}
use lib.ListN.{length-set}
use Rattle.rules.specs.Events.{event_width}
use Rattle.std.proofs.Common.{append_assoc}
use Rattle.std.proofs.Math.ListN.{length, take}
use Rattle.std.proofs.lemmas.List.Edits.{sets-eq}
use Rattle.std.specs.Prelude.{ℕ, suc, ◌+◌, ◌≤◌, ◌≡◌, List, drop, set}
use Rattle.numbers.specs.Stores.{spliced, written_fits, written_not}
use Rattle.event_buffer.proofs.note_numbers.Goals as goal

five_stored : (l : List ℕ) (i x y z w v : ℕ) → i + 5 ≤ length l → set (set (set (set (set l i x) (i + 1) y) (i + 2) z) (i + 3) w) (i + 4) v ≡ spliced l i (x ∷ y ∷ z ∷ w ∷ v ∷ [])
five_stored l i x y z w v h =
    let one : i + 1 ≡ suc i = omega arith in
    let two : i + 2 ≡ suc (suc i) = omega arith in
    let three : i + 3 ≡ suc (suc (suc i)) = omega arith in
    let four : i + 4 ≡ suc (suc (suc (suc i))) = omega arith in
    rw (one, two, three, four) (sets-eq (x ∷ y ∷ z ∷ w ∷ v ∷ []) l i h ∙ append_assoc (take i l) (x ∷ y ∷ z ∷ w ∷ v ∷ []) (drop (i + 5) l))

pub bounds-buffer-i-then-i-buffer : goal.bounds-buffer-i-then-i-buffer
bounds-buffer-i-then-i-buffer c = simp length-set (omega (arith, c.if-i-buffer.true))

pub bounds-buffer-i-then-i-buffer-2 : goal.bounds-buffer-i-then-i-buffer-2
bounds-buffer-i-then-i-buffer-2 c = simp length-set (omega (arith, c.if-i-buffer.true))

pub bounds-buffer-i-then-i-buffer-3 : goal.bounds-buffer-i-then-i-buffer-3
bounds-buffer-i-then-i-buffer-3 c = simp length-set (omega (arith, c.if-i-buffer.true))

pub bounds-buffer-i-then-i-buffer-4 : goal.bounds-buffer-i-then-i-buffer-4
bounds-buffer-i-then-i-buffer-4 c = simp length-set (omega (arith, c.if-i-buffer.true))

pub returns-then-i-buffer : goal.returns-then-i-buffer
returns-then-i-buffer c = let a = c.args in
    five_stored a.buffer.now (event_width * a.n) a.kind a.element a.at a.size a.place (omega arith)
    ∙ sym (written_fits a.buffer.now (event_width * a.n) (a.kind ∷ a.element ∷ a.at ∷ a.size ∷ a.place ∷ []) (omega arith))

pub returns-else-i-buffer : goal.returns-else-i-buffer
returns-else-i-buffer c = let a = c.args in
    sym (written_not a.buffer.now (event_width * a.n) (a.kind ∷ a.element ∷ a.at ∷ a.size ∷ a.place ∷ []) (omega arith))
