-- `next_at` meets its contract: a blank by the tables and by record ends, and the rest by what stands there.
use mathlib.Core.Path.{sym, ◌∙◌}
use native.Mathlib.Omega.{arith}
use Rattle.rules.specs.Settings.{settings}
use Rattle.record_ends.specs.Held.{line_of}
use Rattle.blanks.specs.Blanks.{follows_start, follows_end, follows_skipped, follows_data, follows_separator, since_last, follows_ignored, follows_blank, ahead_run}
use Rattle.blanks.proofs.next_at.Goals as goal
use Rattle.blanks.proofs.next_at.Goals.{in-Blank+else-not-takes_data+else-is_ignored, in-Data}

pub returns-in-Start : goal.returns-in-Start
returns-in-Start c = let a = c.args in record {
  ahead = rw c.in-Start.is at c.requires.7;
  follows = λ es marks t f o r n. follows_start (settings a.t.long a.t.edition) a.t.file.now es a.d.now a.at (line_of a.line.since a.line.mark) o marks (rw c.in-Start.is at f);
}

pub returns-in-End : goal.returns-in-End
returns-in-End c = let a = c.args in record {
  ahead = rw c.in-End.is at c.requires.7;
  follows = λ es marks t f o r n. (follows_end (settings a.t.long a.t.edition) a.t.file.now es a.d.now a.at (line_of a.line.since a.line.mark) o (rw c.in-End.is at f), tt);
}

pub returns-in-Passed : goal.returns-in-Passed
returns-in-Passed c = let a = c.args in record {
  ahead = rw c.in-Passed.is at c.requires.7;
  follows = λ es marks t f o r n. (follows_skipped (settings a.t.long a.t.edition) a.t.file.now es a.d.now a.at (line_of a.line.since a.line.mark) o (rw c.in-Passed.is at f), tt);
}

-- A blank where data does not fit.
pub returns-then-not-takes_data : goal.returns-then-not-takes_data
returns-then-not-takes_data c = let a = c.args in record {
  ahead = (omega arith, omega (arith, c.requires.4));
  follows = λ es marks t f o r n.
      (follows_separator (settings a.t.long a.t.edition) a.t.file.now es a.d.now _ _ _ _ _ (line_of a.line.since a.line.mark) o a.at r (c.takes_data.ensures _ es t o r) (rw c.in-Blank.is at f) c.if-not-takes_data.true, tt);
}

-- A byte 13 that is ignored at once.
pub returns-then-is_ignored : goal.returns-then-is_ignored
returns-then-is_ignored c = let a = c.args in record {
  ahead = (omega arith, omega (arith, c.requires.4));
  follows = λ es marks t f o r n.
      let q = c.takes_data.ensures _ es t o r in
      let e = rw c.in-Blank.is at f in
      let so = since_last (settings a.t.long a.t.edition) a.t.file.now es a.d.now _ _ _ _ _ (line_of a.line.since a.line.mark) o a.at r q e c.if-not-takes_data.false n in
      (follows_ignored (settings a.t.long a.t.edition) a.t.file.now es a.d.now _ _ _ _ _ (line_of a.line.since a.line.mark) o a.at r q e (sym (c.is_ignored.ensures a.t.long o so) ∙ c.if-is_ignored.true), tt);
}

-- A run of data, which a blank or another byte begins.
pub returns : goal.returns
returns c = let a = c.args in record {
  ahead = ahead_run a.d.now a.at c.requires.4 c.run_end.ensures;
  follows = (λ es marks t f o r n. (
    elim c.match-found.branch [
      | in-Blank+else-not-takes_data+else-is_ignored w ↦ let q = w.takes_data.ensures _ es t o r in
          let e = rw w.in-Blank.is at f in
          let so = since_last (settings a.t.long a.t.edition) a.t.file.now es a.d.now _ _ _ _ _ (line_of a.line.since a.line.mark) o a.at r q e w.if-not-takes_data.false n in
          follows_blank (settings a.t.long a.t.edition) a.t.file.now es a.d.now _ _ _ _ _ (line_of a.line.since a.line.mark) o a.at r q e w.if-not-takes_data.false
          (sym (w.is_ignored.ensures a.t.long o so) ∙ w.if-is_ignored.false) c.run_end.ensures
      | in-Data w ↦ follows_data (settings a.t.long a.t.edition) a.t.file.now es a.d.now a.at (line_of a.line.since a.line.mark) o (rw w.in-Data.is at f) c.run_end.ensures
    ],
    λ some. absurd (omega arith),
  ));
}
