-- Laws of the text of events and of a refusal.
use Prim.Native.Nat.{ℕ, suc, ◌+◌, ◌-◌, ◌*◌, ◌≤◌, ◌<◌}
use Rattle.std.specs.Prelude.{◌≡◌, take, get_or}
use Rattle.std.proofs.Math.Path.{sym, ap}
use Rattle.std.proofs.Common.{◌∙◌, length-append}
use mathlib.Core.List.{List, [], ◌++◌, append_assoc, append-nil}
use native.Mathlib.Omega.{arith}
use Rattle.std.proofs.Math.ListN.{length}
use Rattle.rules.specs.Bytes.{SPACE, RS}
use Rattle.rules.specs.Events.{event_width}
use Rattle.rules.specs.Printed.{decimal, word, line, events_word, refused_word, refused_text}
use Rattle.line_text.specs.Adds.{Adds}
use Rattle.line_text.specs.Words.{puts_both}
use Rattle.event_names.specs.Names.{named_at}
use Rattle.event_lines.specs.TextOf.{line_at, lines_from, text_of}

-- The line of an event.
pub puts_line : {before first second third after : List ℕ} {at a b c r : ℕ} (s elements attributes : List ℕ) (total : ℕ) (numbers : List ℕ) (k n : ℕ)
    → Adds before at first a (word (decimal (get_or numbers (event_width * k) 0)) SPACE)
    → Adds first a second b (word (named_at s elements attributes total numbers k n) SPACE) → Adds second b third c (word (decimal (get_or numbers (event_width * k + 2) 0)) SPACE)
    → Adds third c after r (word (decimal (get_or numbers (event_width * k + 3) 0)) RS) → Adds before at after r (line_at s elements attributes total numbers k n)
unfolding line_at line
puts_line s elements attributes total numbers k n x y v w = puts_both x (puts_both y (puts_both v w))

-- A loop that puts the lines of events: what is left of them.
pub record Lines (before : List ℕ) (at : ℕ) (after : List ℕ) (r : ℕ) (left text : List ℕ) : Type 0 where
  pub same : length after ≡ length before
  pub ends : r + length left ≡ at + length text
  pub within : r ≤ length before
  pub text_is : take r after ++ left ≡ take at before ++ text

module _ (s elements attributes : List ℕ) (total : ℕ) (numbers : List ℕ) (n : ℕ) where
  abbrev pub lines_left : ℕ → List ℕ
  lines_left i = lines_from s elements attributes total numbers (n - i) i

  abbrev pub all_lines : List ℕ
  all_lines = lines_from s elements attributes total numbers n 0

  lines_next : (i : ℕ) → i < n → lines_left i ≡ line_at s elements attributes total numbers i n ++ lines_left (i + 1)
  unfolding lines_from
  lines_next i h =
      let z : n - i ≡ suc (n - (i + 1)) = omega arith in
      let all : i + suc (n - (i + 1)) ≡ n = omega arith in
      rw (z, lines_from, all)

  module _ {before after : List ℕ} {at r i : ℕ} (l : Lines before at after r (lines_left i) all_lines) where
    pub lines_turn : {next : List ℕ} {q : ℕ} → i < n → Adds after r next q (line_at s elements attributes total numbers i n) → Lines before at next q (lines_left (i + 1)) all_lines
    lines_turn {next} {q} h a =
        let split = lines_next i h in
        let counted = l.ends in
        let put = a.ends in
        record {
          same = a.same ∙ l.same;
          ends = omega (arith, ap length split, length-append (line_at s elements attributes total numbers i n) (lines_left (i + 1)));
          within = omega (arith, a.within, l.same);
          text_is = rw (a.text_is, append_assoc, ← split) l.text_is;
        }

    pub lines_end : n ≤ i → Adds before at after r all_lines
    unfolding lines_from
    lines_end h =
        let z : n - i ≡ 0 = omega arith in
        let none : lines_left i ≡ [] = rw (z, lines_from) in
        record {
          same = l.same;
          ends = omega (arith, l.ends, ap length none);
          within = l.within;
          text_is = sym (append-nil (take r after)) ∙ rw none at l.text_is;
        }

-- The whole text of events: it is what the buffer is left with.
pub puts_events : {before first second after left : List ℕ} {b c r : ℕ} (s elements attributes : List ℕ)
    (total : ℕ) (numbers : List ℕ) (n : ℕ) → Adds before 0 first b events_word
    → Adds first b second c (word (decimal n) RS) → Adds second c after r (lines_from s elements attributes total numbers n 0)
    → left ≡ after → (r ≤ length left) × (take r left ≡ text_of s elements attributes total numbers n)
unfolding text_of
puts_events s elements attributes total numbers n x y z e =
    let all = puts_both x (puts_both y z) in
    rw e (omega (arith, all.within, all.same), all.text_is)

-- The whole text of a refusal, likewise.
pub puts_refusal : {before first second third after left : List ℕ} {a b c r : ℕ} (number position : ℕ)
    (place : List ℕ) → Adds before 0 first a refused_word
    → Adds first a second b (word (decimal number) SPACE) → Adds second b third c place → Adds third c after r (word (decimal position) RS)
    → left ≡ after → (r ≤ length left) × (take r left ≡ refused_text number place position)
unfolding refused_text
puts_refusal number position place x y z w e =
    let all = puts_both x (puts_both y (puts_both z w)) in
    rw e (omega (arith, all.within, all.same), all.text_is)
