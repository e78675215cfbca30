-- `put_record` meets its contract: the table has room for the six numbers, and they are written behind those of the elements before.
use Rattle.std.proofs.Common.{◌≡◌, ℕ, rules, List, ◌+◌, ◌*◌, ◌++◌, take, sym, ap, ◌∙◌, arith}
use Rattle.rules.specs.Judge.{record_width}
use Rattle.element_records.specs.Progress.{kind_of, tokens_of}
use Rattle.element_records.specs.Records.{put_six, six_numbers}
use Rattle.element_records.proofs.put_record.Goals as goal
use Rattle.element_records.proofs.put_record.Goals.{in-Some, in-None}

pub returns : goal.returns
returns c =
    let a = c.args in
    let e = a.e in
    let n = record_width * a.k in
    let kind : c.match-e.kind ≡ (kind_of e.model, tokens_of e.model) =
    elim c.match-e.branch [
      | in-Some w ↦ w.kind-is ∙ sym (ap (λ m. (kind_of m, tokens_of m)) w.in-Some.is)
      | in-None w ↦ w.kind-is ∙ sym (ap (λ m. (kind_of m, tokens_of m)) w.in-None.is)
    ] in
    put_six a.elements.now n (record_width * (a.k + 1)) a.e.offset a.e.size _ _ _ _ (omega arith) (omega arith)
    ∙ ap (λ (l : List ℕ). take n a.elements.now ++ l) (six_numbers e (search rules) (search rules) (ap (λ (k : ℕ × ℕ). k.0) kind) (ap (λ (k : ℕ × ℕ). k.1) kind))
