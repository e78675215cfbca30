-- Laws of the lent buffers: what one event after another leaves.
use Rattle.std.specs.Prelude.{ℕ, suc, set, ◌+◌, ◌/◌, ◌%◌, ◌*◌, ◌≤◌, ◌<◌, ◌≡◌, Bool, true, false, leb, List, [], ◌∷◌, ◌++◌, take, drop}
use Rattle.std.proofs.Math.Path.{refl}
use Rattle.std.proofs.Common.{sym, ◌∙◌, ap, append_assoc, append-nil, arith, length-append, length-drop, drop_at, leb-true, leb-false}
use Rattle.std.proofs.Math.ListN.{length}
use Rattle.std.proofs.Math.Seq.{take-append_seam}
use Rattle.std.proofs.lemmas.List.Edits.{sets-eq}
use Rattle.rules.specs.Lent.{bytes_of}
use Rattle.rules.specs.Events.{Event, event_width}
use Rattle.rules.specs.Reader.{event_numbers}
use Rattle.numbers.specs.Written.{written, Written}
use Rattle.numbers.specs.Stores.{bytes_of_append, bytes_of_length, event_numbers_length, splice_turn, written_fits, written_not, written_keeps, written_more}
use Rattle.event_buffer.specs.Buffers.{noted, Puts, PutsOver}

-- Events as numbers.
pub event_numbers_append : (ev fv : List Event) → event_numbers (ev ++ fv) ≡ event_numbers ev ++ event_numbers fv
unfolding event_numbers
event_numbers_append [] fv = refl
event_numbers_append (e ∷ ev) fv = rw (event_numbers_append ev fv)

-- The events of a token behind those before, as numbers and as bytes.
module _ (before l : List ℕ) (ev fv : List Event) (count : ℕ) (c : count ≡ length ev) where
  pub events_more : Written before l (event_numbers ev) → Written before (written l (event_width * count) (event_numbers fv)) (event_numbers (ev ++ fv))
  events_more w =
      let e : event_width * count ≡ length (event_numbers ev) = omega (arith, event_numbers_length ev) in
      rw (e, event_numbers_append ev fv) (written_more before l (event_numbers ev) (event_numbers fv) w)

  pub event_bytes_more : Written before l (bytes_of (event_numbers ev)) → Written before (written l (4 * event_width * count) (bytes_of (event_numbers fv))) (bytes_of (event_numbers (ev ++ fv)))
  event_bytes_more w =
      let e : 4 * event_width * count ≡ length (bytes_of (event_numbers ev)) = omega (arith, event_numbers_length ev, bytes_of_length (event_numbers ev)) in
      rw (e, event_numbers_append ev fv, bytes_of_append (event_numbers ev) (event_numbers fv)) (written_more before l (bytes_of (event_numbers ev)) (bytes_of (event_numbers fv)) w)

-- What is put where it fits, and else nowhere.
pub written_so : (l : List ℕ) (k : ℕ) {n : ℕ} (xs : List ℕ) {ys after : List ℕ} → n ≡ length xs → ys ≡ xs
    → (k + n ≤ length l → after ≡ take k l ++ (ys ++ drop (k + n) l)) → (length l < k + n → after ≡ l) → after ≡ written l k xs
written_so l k xs {after = after} e q fits full = by_room (leb (k + length xs) (length l)) refl
  where
    by_room : (b : Bool) → leb (k + length xs) (length l) ≡ b → after ≡ written l k xs
    by_room true t =
        let h = leb-true (k + length xs) (length l) t in
        rw (e, q) at fits (omega arith) ∙ sym (written_fits l k xs h)
    by_room false t =
        let h = leb-false (k + length xs) (length l) t in
        full (omega arith) ∙ sym (written_not l k xs h)

-- What is written right behind what was written makes one with it.
pub written_behind : (l now xs ys : List ℕ) (b at : ℕ) {after : List ℕ} → now ≡ written l b xs → at ≡ b + length xs → b + length xs + length ys ≤ length l → after ≡ written now at ys → after ≡ written l b (xs ++ ys)
written_behind l now xs ys b at e a h w =
    let sizes = length-append xs ys in
    let same = written_keeps l b xs e in
    let so_far = e ∙ written_fits l b xs (omega arith) in
    w ∙ written_fits now at ys (omega arith) ∙ splice_turn l now xs ys b at so_far (omega arith) a ∙ sym (written_fits l b (xs ++ ys) (omega arith))

-- A number stored as four bytes, low byte first.
pub four_bytes_stored : (l : List ℕ) (i x : ℕ) → i + 4 ≤ length l → set (set (set (set l i (x % 256)) (i + 1) (x / 256 % 256)) (i + 2) (x / 65536 % 256)) (i + 3) (x / 16777216 % 256) ≡ written l i (bytes_of (x ∷ []))
unfolding bytes_of
four_bytes_stored l i x h =
    let one : i + 1 ≡ suc i = omega arith in
    let two : i + 2 ≡ suc (suc i) = omega arith in
    let three : i + 3 ≡ suc (suc (suc i)) = omega arith in
    let bytes = x % 256 ∷ x / 256 % 256 ∷ x / 65536 % 256 ∷ x / 16777216 % 256 ∷ [] in
    rw (one, two, three) (sets-eq bytes l i h ∙ append_assoc (take i l) bytes (drop (i + 4) l)) ∙ sym (written_fits l i (bytes_of (x ∷ [])) h)

-- Five numbers, each stored as four bytes.
pub five_numbers_stored : (l : List ℕ) (i x y z w v : ℕ) → i + 20 ≤ length l → {one two three four five : List ℕ}
    → one ≡ written l i (bytes_of (x ∷ []))
    → two ≡ written one (i + 4) (bytes_of (y ∷ []))
    → three ≡ written two (i + 8) (bytes_of (z ∷ []))
    → four ≡ written three (i + 12) (bytes_of (w ∷ []))
    → five ≡ written four (i + 16) (bytes_of (v ∷ []))
    → five ≡ written l i (bytes_of (x ∷ y ∷ z ∷ w ∷ v ∷ []))
unfolding bytes_of
five_numbers_stored l i x y z w v h {one} {two} {three} {four} a b c d e =
    let after_two = written_behind l one (bytes_of (x ∷ [])) (bytes_of (y ∷ [])) i (i + 4) a (omega arith) (omega arith) b in
    let after_three = written_behind l two (bytes_of (x ∷ y ∷ [])) (bytes_of (z ∷ [])) i (i + 8) after_two (omega arith) (omega arith) c in
    let after_four = written_behind l three (bytes_of (x ∷ y ∷ z ∷ [])) (bytes_of (w ∷ [])) i (i + 12) after_three (omega arith) (omega arith) d in
    written_behind l four (bytes_of (x ∷ y ∷ z ∷ w ∷ [])) (bytes_of (v ∷ [])) i (i + 16) after_four (omega arith) (omega arith) e

-- Nothing is put, an event is put, and what is put behind what was put makes one with it.
pub puts_none : (numbers bytes : List ℕ) (n : ℕ) → Puts numbers bytes n [] numbers bytes
puts_none numbers bytes n =
    record {
      numbers_kept = refl;
      bytes_kept = refl;
      behind = λ l m before c w. rw (append-nil before) w;
    }

module _ (numbers bytes : List ℕ) (n kind number offset size place : ℕ) where
  pub puts_noted : {numbers' bytes' : List ℕ} → numbers' ≡ written numbers (event_width * n) (kind ∷ number ∷ offset ∷ size ∷ place ∷ []) → bytes' ≡ written bytes (4 * event_width * n) (bytes_of (kind ∷ number ∷ offset ∷ size ∷ place ∷ []))
      → Puts numbers bytes n (noted kind number offset size place ∷ []) numbers' bytes'
  unfolding event_numbers
  puts_noted {numbers'} {bytes'} e f =
      let same = written_keeps numbers (event_width * n) (kind ∷ number ∷ offset ∷ size ∷ place ∷ []) e in
      let same_bytes = written_keeps bytes (4 * event_width * n) (bytes_of (kind ∷ number ∷ offset ∷ size ∷ place ∷ [])) f in
      record {
        numbers_kept = same;
        bytes_kept = same_bytes;
        behind = λ l m before c w.
            record {
              numbers_kept = same ∙ w.numbers_kept;
              bytes_kept = same_bytes ∙ w.bytes_kept;
              numbers_hold = rw e (events_more l numbers before (noted kind number offset size place ∷ []) n c w.numbers_hold);
              bytes_hold = rw f (event_bytes_more m bytes before (noted kind number offset size place ∷ []) n c w.bytes_hold);
            };
      }

pub puts_more : {a b a' b' a'' b'' : List ℕ} {n : ℕ} {ev fv : List Event} → Puts a b n ev a' b' → Puts a' b' (n + length ev) fv a'' b'' → Puts a b n (ev ++ fv) a'' b''
puts_more {n = n} {ev} {fv} p q =
    record {
      numbers_kept = q.numbers_kept ∙ p.numbers_kept;
      bytes_kept = q.bytes_kept ∙ p.bytes_kept;
      behind = λ l m before c w.
          let sizes = length-append before ev in
          rw (sym (append_assoc before ev fv)) (q.behind l m (before ++ ev) (omega arith) (p.behind l m before c w));
    }

-- The same where the second count is another expression of the same number.
pub puts_then : {a b a' b' a'' b'' : List ℕ} {n m : ℕ} {ev fv : List Event} → Puts a b n ev a' b' → m ≡ n + length ev → Puts a' b' m fv a'' b'' → Puts a b n (ev ++ fv) a'' b''
puts_then p e q = puts_more p (rw e at q)

-- What is written over ys, which stands behind xs, is in its place if it is as long.
pub written_over : (before l xs ys zs : List ℕ) → length zs ≡ length ys → Written before l (xs ++ ys) → Written before (written l (length xs) zs) (xs ++ zs)
written_over before l xs ys zs same w h =
    let D = drop (length (xs ++ ys)) before in
    let sizes = length-append xs ys in
    let sizes' = length-append xs zs in
    let e : l ≡ (xs ++ ys) ++ D = w (omega arith) in
    let all : length l ≡ length before = ap length e ∙ length-append (xs ++ ys) D ∙ omega (arith, length-drop (length (xs ++ ys)) before) in
    let front : take (length xs) l ≡ xs = ap (take (length xs)) (e ∙ append_assoc xs ys D) ∙ take-append_seam xs (ys ++ D) in
    let rest : drop (length xs + length zs) l ≡ D = ap (drop (length xs + length zs)) e ∙ drop_at (xs ++ ys) D (length xs + length zs) (omega arith) in
    let count : length (xs ++ ys) ≡ length (xs ++ zs) = omega arith in
    written_fits l (length xs) zs (omega arith)
    ∙ rw (front, rest) (sym (append_assoc xs zs D))
    ∙ ap (λ (n : ℕ). (xs ++ zs) ++ drop n before) count

-- An event put over the one that stands last.
module _ (numbers bytes : List ℕ) (n kind number offset size place : ℕ) where
  pub over_noted : {numbers' bytes' : List ℕ} → numbers' ≡ written numbers (event_width * n) (kind ∷ number ∷ offset ∷ size ∷ place ∷ []) → bytes' ≡ written bytes (4 * event_width * n) (bytes_of (kind ∷ number ∷ offset ∷ size ∷ place ∷ []))
      → PutsOver numbers bytes n (noted kind number offset size place) numbers' bytes'
  unfolding event_numbers bytes_of
  over_noted {numbers'} {bytes'} e f =
      let this = noted kind number offset size place in
      record {
        over = λ l m before other c w.
            let at : event_width * n ≡ length (event_numbers before) = omega (arith, event_numbers_length before) in
            let at_bytes : 4 * event_width * n ≡ length (bytes_of (event_numbers before)) = omega (arith, event_numbers_length before, bytes_of_length (event_numbers before)) in
            record {
              numbers_kept = written_keeps numbers (event_width * n) (kind ∷ number ∷ offset ∷ size ∷ place ∷ []) e ∙ w.numbers_kept;
              bytes_kept = written_keeps bytes (4 * event_width * n) (bytes_of (kind ∷ number ∷ offset ∷ size ∷ place ∷ [])) f ∙ w.bytes_kept;
              numbers_hold = rw (e, at, event_numbers_append before (this ∷ [])) (written_over l numbers (event_numbers before) (event_numbers (other ∷ [])) (event_numbers (this ∷ [])) refl (rw (event_numbers_append before (other ∷ [])) at w.numbers_hold));
              bytes_hold =
                  rw (f, at_bytes, event_numbers_append before (this ∷ []), bytes_of_append (event_numbers before) (event_numbers (this ∷ [])))
                  (written_over m bytes (bytes_of (event_numbers before)) (bytes_of (event_numbers (other ∷ []))) (bytes_of (event_numbers (this ∷ []))) refl (rw (event_numbers_append before (other ∷ []), bytes_of_append (event_numbers before) (event_numbers (other ∷ []))) at w.bytes_hold));
            };
      }
