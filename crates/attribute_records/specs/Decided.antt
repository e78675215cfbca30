-- Laws of what is decided on a type file's attributes, and of the lent buffer after it.
use Rattle.std.specs.Prelude.{ℕ, ◌+◌, ◌*◌, ◌≤◌, ◌<◌, ◌≡◌, refl, true, false, List, length, replicate, Result, Ok, Err}
use Rattle.std.specs.Result.{is_err}
use Rattle.std.proofs.Common.{sym, ap, ◌∙◌, true≢false, inl, inr, arith}
use Rattle.rules.specs.Settings.{Settings}
use Rattle.rules.specs.Lent.{Lent, numbers, bytes, standing, room, filled_with, zeroed}
use Rattle.rules.specs.Attributes.{AttList}
use Rattle.rules.specs.TypeFile.{Element, attributes_of}
use Rattle.rules.specs.Judge.{Answer, acceptance}
use Rattle.rules.specs.Listing.{attribute_width, Lists, refuses, no_room, accepts}
use Rattle.layout.specs.Sizes.{LIST, RECORDS}
use Rattle.numbers.specs.Stores.{standing_fits}
use Rattle.list_table.specs.Lists.{ListAt}
use Rattle.list_table.specs.Lists as table
use Rattle.attribute_lists.specs.Listed.{Headed, HeadedAs}
use Rattle.attribute_lists.specs.Heads.{lists_filled}
use Rattle.text.specs.declared.Fault.{Fault}
use Rattle.type_judge.specs.declared.TypeFault.{TypeFault}
use Rattle.type_judge.specs.declared.TypeFault.TheVariants.{Malformed}
use Rattle.type_judge.specs.Decides.{answer_of}
use Rattle.type_judge.specs.Decides as judge
use Rattle.attribute_records.specs.Recorded.{Holds, PutsLists, ListsUnder, RefusesList, Decides}
use Rattle.attribute_records.specs.Numbers.{lists_length}

-- The records of all lists were put, from the table that was filled.
module _ (long : ℕ) (s heads lists : List ℕ) (n : ℕ) (filled : (ls : List AttList) → Headed long s heads ls → (k : ℕ) → k < n → ListAt long s lists (LIST * k) (attributes_of ls (k + 1)))
    (numbers bytes numbers' bytes' : List ℕ) {r : ℕ} (put : PutsLists lists n numbers bytes numbers' bytes' r) (room : ℕ) where
  filled_lists : (es : List Element) → length es ≡ n → HeadedAs long s heads es → table.Lists long s es lists
  filled_lists es e u = lists_filled u lists (λ ls h k l. filled ls h k (omega arith))

  pub listed_full : (f : Fault) → room < attribute_width * r → f ≡ record { number = 19; at = 0 } → ListsUnder long s heads n room numbers bytes numbers' bytes' (Err f)
  listed_full f h q es e u =
      let t = (put long s es e (filled_lists es e u)).0 in
      (omega arith, rw q refl)

  pub listed_put : attribute_width * r ≤ room → ListsUnder long s heads n room numbers bytes numbers' bytes' (Ok r)
  listed_put h es e u =
      let (t, w) = put long s es e (filled_lists es e u) in
      (omega arith, t, w)

-- The judge's verdict, where it has room for all elements, and what is listed where it accepts.
module _ (c : Settings) (s elements heads : List ℕ) (room : ℕ) (numbers bytes : List ℕ) where
  pub decided_refused : (x : TypeFault) (v : Result ℕ TypeFault) → judge.Decides c s RECORDS elements heads (Err x) → v ≡ Err x → Decides c s room numbers bytes numbers bytes v
  decided_refused x v d e = rw e (inl d)

  pub decided_listed : (n : ℕ) (numbers' bytes' : List ℕ) → judge.Decides c s RECORDS elements heads (Ok n) → (t : ℕ) → ListsUnder c.name_length s heads n room numbers bytes numbers' bytes' (Ok t) → Decides c s room numbers bytes numbers' bytes' (Ok t)
  decided_listed n numbers' bytes' d t w = let (es, a, count, fits, few, recorded, u) = d in (es, a, w es (sym count) u)

  pub decided_full : (n : ℕ) (numbers' bytes' : List ℕ) → judge.Decides c s RECORDS elements heads (Ok n) → (f : Fault) (v : Result ℕ TypeFault) → ListsUnder c.name_length s heads n room numbers bytes numbers' bytes' (Err f) → v ≡ Err (Malformed f)
      → Decides c s room numbers bytes numbers' bytes' v
  decided_full n numbers' bytes' d f v w e = let (es, a, count, fits, few, recorded, u) = d in rw e (inr (es, a, w es (sym count) u))

-- The buffer that is lent.
abbrev pub lent_of : Lent → (numbers bytes : List ℕ) → List ℕ
lent_of numbers l m = l
lent_of bytes l m = m

holds_lent : (l : Lent) {n b n' b' xs : List ℕ} → Holds n b n' b' xs → length xs ≤ room l (lent_of l n b) → lent_of l n' b' ≡ filled_with (standing l xs) (lent_of l n b)
holds_lent numbers {n} {xs = xs} w h = w.numbers_hold (standing_fits numbers xs n h)
holds_lent bytes {b = b} {xs = xs} w h = w.bytes_hold (standing_fits bytes xs b h)

-- What the lent buffer holds after it, filled or zeroed.
module _ (l : Lent) (c : Settings) (s n b n' b' : List ℕ) (v : Result ℕ TypeFault) (d : Decides c s (room l (lent_of l n b)) n b n' b' v) where
  pub listed_accepts : is_err v ≡ false → Lists l c s (lent_of l n b) (answer_of v) (lent_of l n' b')
  listed_accepts e = by_verdict v refl d
    where
      by_verdict : (u : Result ℕ TypeFault) → v ≡ u → Decides c s (room l (lent_of l n b)) n b n' b' u → Lists l c s (lent_of l n b) (answer_of v) (lent_of l n' b')
      by_verdict (Ok t) q (es, a, (fits, count, w)) =
          let size = lists_length 1 es in
          rw q (accepts es a fits (ap acceptance count) (holds_lent l w (omega arith)))
      by_verdict (Err x) q h = absurd (true≢false (rw q at e))

  pub listed_refuses : (after : List ℕ) → is_err v ≡ true → after ≡ zeroed (lent_of l n b) → Lists l c s (lent_of l n b) (answer_of v) after
  listed_refuses after e q = by_verdict v refl d
    where
      by_list : {a : Answer} → RefusesList c s (room l (lent_of l n b)) a → Lists l c s (lent_of l n b) a after
      by_list (inl x) = refuses x q
      by_list (inr x) = let (es, a, (h, e)) = x in no_room es a h e q

      by_verdict : (u : Result ℕ TypeFault) → v ≡ u → Decides c s (room l (lent_of l n b)) n b n' b' u → Lists l c s (lent_of l n b) (answer_of v) after
      by_verdict (Ok t) z h = absurd (true≢false (sym (rw z at e)))
      by_verdict (Err x) z h = rw z (by_list h)

-- A buffer of the same length is zeroed alike.
pub zeroed_kept : (before now : List ℕ) {after : List ℕ} → length now ≡ length before → after ≡ zeroed now → after ≡ zeroed before
zeroed_kept before now e q = q ∙ ap (λ (k : ℕ). replicate k 0) e
