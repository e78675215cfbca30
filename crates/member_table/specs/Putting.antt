-- The members of a group put in turn: what a member has of the stack, and a turn of the loop.
use Rattle.std.specs.Prelude.{ℕ, zero, suc, ◌+◌, ◌≤◌, ◌<◌, ◌≡◌}
use Rattle.std.proofs.Common.{sym, ◌∙◌, arith, eq-eqb, ne_eqb}
use Rattle.std.proofs.Math.Path.{ap}
use mathlib.Core.List.{List}
use Rattle.model_links.specs.Each.{each, each_none, each_more, each_turn, each_end}
use Rattle.member_entries.specs.Entries.{put_member, put_record}
use Rattle.member_table.specs.declared.Piece.{Piece}
use Rattle.member_table.specs.Filling.{piece_at, needed_in, number_at, other_at, put_one, put_ones, put_group}

-- A place that begins another member.
module _ (stack : List Piece) (first j o : ℕ) where
  pub other_second : j ≡ 0 → o ≡ first + 1 → (piece_at stack o).lo ≡ other_at stack first j
  other_second z e = rw (eq-eqb _ _ z, e)

  pub other_first : (j ≡ 0 → ⊥) → o ≡ first → (piece_at stack o).lo ≡ other_at stack first j
  other_first z e = rw (ne_eqb _ _ z, e)

module _ (M : List ℕ) (base : ℕ) (T lasts : List ℕ) (groups own : ℕ) (stack : List Piece) (first needed j : ℕ) where
  pub one_put :
      (w h lo last : ℕ) → h ≡ number_at stack first own needed j → w ≡ other_at stack first j → lo ≡ (piece_at stack (first + j)).lo → last ≡ (piece_at stack (first + j)).last →
      (S : List ℕ) → S ≡ put_member M base T lasts groups w h lo (last + 1) (piece_at stack (first + j)).required → S ≡ put_one M base T lasts groups own stack first needed j
  unfolding put_one
  one_put w h lo last h_is w_is lo_is last_is S e = rw (e, h_is, w_is, lo_is, last_is)

-- A turn more at the end.
each_last : (f : List ℕ → ℕ → List ℕ) (b d a : ℕ) (M : List ℕ) → d + a ≡ b → each f M a (b + 1) ≡ f (each f M a b) b
each_last f b zero a M e =
    let is : a ≡ b = omega arith in
    rw is (each_more f M b (b + 1) (omega arith) ∙ each_none f (f M b) (b + 1) (b + 1) (omega arith) ∙ ap (λ (S : List ℕ). f S b) (sym (each_none f M b b (omega arith))))
each_last f b (suc d) a M e =
    each_more f M a (b + 1) (omega arith) ∙ each_last f b d (a + 1) (f M a) (omega arith) ∙ ap (λ (S : List ℕ). f S b) (sym (each_more f M a b (omega arith)))

-- The members of a group in turn, and the group whole.
module _ (M : List ℕ) (base : ℕ) (T lasts : List ℕ) (groups own : ℕ) (stack : List Piece) (first needed : ℕ) where
  pub ones_turn : (S R : List ℕ) (j k : ℕ) → S ≡ put_one M base T lasts groups own stack first needed j → j < k → put_ones M base T lasts groups own stack first needed j k ≡ R → put_ones S base T lasts groups own stack first needed (j + 1) k ≡ R
  unfolding put_ones
  ones_turn S R j k e l inv = each_turn (λ N i. put_one N base T lasts groups own stack first needed i) M j k S R e l inv

  pub ones_end : (R : List ℕ) (j k : ℕ) → k ≤ j → put_ones M base T lasts groups own stack first needed j k ≡ R → M ≡ R
  unfolding put_ones
  ones_end R j k l inv = each_end (λ N i. put_one N base T lasts groups own stack first needed i) M j k R l inv

  pub ones_last : (k : ℕ) → put_ones M base T lasts groups own stack first needed 0 (k + 1) ≡ put_one (put_ones M base T lasts groups own stack first needed 0 k) base T lasts groups own stack first needed k
  unfolding put_ones
  ones_last k = each_last (λ N i. put_one N base T lasts groups own stack first needed i) k k 0 M (omega arith)

  pub ones_first : put_ones M base T lasts groups own stack first needed 0 1 ≡ put_one M base T lasts groups own stack first needed 0
  unfolding put_ones
  ones_first =
      ones_last 0 ∙ ap (λ (S : List ℕ). put_one S base T lasts groups own stack first needed 0) (each_none (λ N i. put_one N base T lasts groups own stack first needed i) M 0 0 (omega arith))

pub group_put :
    (M : List ℕ) (base : ℕ) (T lasts : List ℕ) (groups own : ℕ) (stack : List Piece) (first needed k : ℕ) → needed ≡ needed_in stack first k → (S R : List ℕ) → S ≡ put_record M base groups own needed k → R ≡ put_ones S base T lasts groups own stack first needed 0 k →
    R ≡ put_group M base T lasts groups own stack first (needed_in stack first k) k
group_put M base T lasts groups own stack first needed k n S R e f = rw (e, n) at f
