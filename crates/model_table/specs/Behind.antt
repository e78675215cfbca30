-- Filling the table of a model leaves what stands behind its rows as it was.
use Prim.Native.Nat.{ℕ, ◌*◌, ◌≤◌, ◌<◌}
use Rattle.std.specs.Prelude.{cond, set}
use mathlib.Core.List.{List}
use Rattle.std.proofs.Common.{arith}
use Rattle.layout.specs.Sizes.{MODEL_ROW, POSITIONS}
use Rattle.model_links.specs.Links.{link, clear_row}
use Rattle.model_links.specs.Behind.{Behind, behind_none, behind_on, behind_set, behind_if, link_behind, settle_behind, clear_behind, unbegin_behind}
use Rattle.model_table.specs.declared.Part.{Part}
use Rattle.model_table.specs.Fill.{put_place, close_ends, close_starts, join_seq, join_and, repeated, finished}

pub place_behind : (T : List ℕ) (p : ℕ) → p < POSITIONS → Behind T (put_place T p)
place_behind T p h =
    let R : List ℕ = clear_row T p in
    behind_on (behind_on (clear_behind T p h) (behind_set R p 1 (omega arith))) (behind_set (set R p 1) (p * MODEL_ROW) 1 (omega arith))

pub finished_behind : (T : List ℕ) (g : Part) → Behind T (finished T g)
finished_behind T g = behind_on (behind_set T 0 (cond g.nullable 1 0) (omega arith)) (behind_set (set T 0 (cond g.nullable 1 0)) POSITIONS g.required (omega arith))

pub repeated_behind : (T : List ℕ) (lo hi : ℕ) → lo ≤ hi → hi ≤ POSITIONS → Behind T (repeated T lo hi)
repeated_behind T lo hi l h = link_behind T lo hi l h lo hi l h

module _ (T : List ℕ) (lo mid hi : ℕ) (lo_to : lo ≤ mid) (mid_to : mid ≤ hi) (hi_to : hi ≤ POSITIONS) where
  pub seq_behind : (g h : Part) → Behind T (join_seq T lo mid hi g h)
  unfolding close_ends close_starts
  seq_behind g h =
      let R : List ℕ = link T lo mid mid hi in
      behind_on
      (behind_on (link_behind T lo mid lo_to (omega arith) mid hi mid_to hi_to) (behind_if h.nullable behind_none (settle_behind R lo mid lo_to (omega arith) h.required)))
      (behind_if g.nullable behind_none (unbegin_behind (close_ends R lo mid h) mid hi mid_to hi_to))

  pub and_behind : Behind T (join_and T lo mid hi)
  and_behind = behind_on (link_behind T lo mid lo_to (omega arith) mid hi mid_to hi_to) (link_behind (link T lo mid mid hi) mid hi mid_to hi_to lo mid lo_to (omega arith))
