use Rattle.std.proofs.Common.{◌≡◌, ℕ, ◌∙◌, arith}
use Rattle.element_index.specs.Seeking.{bucket_read, letter_read, follows_true, none_found, seeks_start, seeks_end, seeks_found, seeks_next, seeks_counted}
use Rattle.element_index.proofs.find.Goals as goal

pub returns-then-not-is_letter : goal.returns-then-not-is_letter
returns-then-not-is_letter c =
    let a = c.args in
    let other = letter_read a.t.now a.at c.byte-first.result c.byte-first.ensures c.is_letter.ensures c.if-not-is_letter.true in
    record { element_value = λ es x. none_found a.t.now a.at a.size x c.requires.0 other; element_le_element_limit = (omega arith, omega arith) }

pub loop-k-init : goal.loop-k-init
loop-k-init c =
    let a = c.args in
    let (some, short, inside) = c.requires in
    let first = letter_read a.t.now a.at c.byte-first.result c.byte-first.ensures c.is_letter.ensures c.if-not-is_letter.false in
    let start = bucket_read a.index.now a.t.now a.at a.size _ _ _ c.byte-first.ensures c.bucket.ensures.0 c.from.ensures in
    (omega arith, omega arith, first, λ es x. seeks_start a.t.now a.at a.size x some first short start)

-- The pair that a law gives, with the count as the code has it.
counted : {A : Type 0} {n m r : ℕ} → A × (n ≡ r) → m ≡ n → A × (m ≡ r)
counted (a, e) q = (a, q ∙ e)

pub returns-then-same_name : goal.returns-then-same_name
returns-then-same_name c =
    let a = c.args in
    let (risen, most, inside) = follows_true a.s.now a.elements.now c.loop-k.before.0 c.loop-k.k.0 a.size c.comes_next.ensures c.loop-k-test.true in
    let (few, to, first, seeks) = c.loop-k.invariant in
    record {
      element_value =
          λ es x. counted (seeks_found a.t.now a.at a.size x c.requires.0 first (seeks es x) (omega arith) c.offset.ensures.0 c.same_name.ensures c.if-same_name.true) (omega arith);
      element_le_element_limit = (omega arith, omega arith);
    }

pub loop-k-preserved : goal.loop-k-preserved
loop-k-preserved c =
    let a = c.args in
    let (risen, most, inside) = follows_true a.s.now a.elements.now c.loop-k.before.0 c.loop-k.k.0 a.size c.comes_next.ensures c.loop-k-test.true in
    let (few, to, first, seeks) = c.loop-k.invariant in (
      omega arith,
      omega arith,
      first,
      λ es x. seeks_counted (omega arith) (seeks_next a.t.now a.at a.size x c.requires.0 first (seeks es x) (omega arith) c.offset.ensures.0 c.same_name.ensures c.if-same_name.false c.from-in-loop-k.ensures),
    )

pub returns : goal.returns
returns c =
    let a = c.args in
    let (few, to, first, seeks) = c.loop-k.invariant in
    record {
      element_value = λ es x. seeks_end a.t.now a.at a.size x c.requires.0 first (seeks es x) c.comes_next.ensures c.loop-k-test.false;
      element_le_element_limit = (omega arith, omega arith);
    }
