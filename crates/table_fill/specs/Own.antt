-- A type file's own elements: whatever elements a contract speaks of are these.
use Rattle.std.specs.Prelude.{ℕ, ◌+◌, ◌≡◌, List, [], length}
use Rattle.std.proofs.Common.{subst}
use Rattle.std.proofs.lemmas.List.{length-replicate}
use Rattle.rules.specs.Settings.{settings}
use Rattle.rules.specs.Reading.{refused, got}
use Rattle.rules.specs.TypeFile.{Element, type_file}
use Rattle.rules.specs.Judge.{Accepts}
use Rattle.layout.specs.Sizes.{PLACES, FACTS}
use Rattle.element_index.specs.Indexed.{Judged, Indexed}
use Rattle.list_table.specs.Lists.{Lists}
use Rattle.type_tables.specs.Tables.{Tables}
use Rattle.table_fill.specs.Told.{NoMembers}
use Rattle.table_fill.specs.Places.{PlacePut}
use Rattle.table_fill.specs.Filled.{Filled, filled_all}
use Rattle.table_fill.specs.Kinds.{document_rows, no_rows, no_places, no_facts, filled_document}

-- The elements of a type file where names may have `long` bytes, none where it is refused.
unfoldable pub elements_of : (long : ℕ) → List ℕ → List Element
elements_of long s = elim (type_file long s) [ refused n k ↦ [] | got es ↦ es ]

own : (long : ℕ) (s : List ℕ) (es : List Element) → type_file long s ≡ got es → es ≡ elements_of long s
unfolding elements_of
own long s es read = rw (read, elements_of)

-- The index of a type that is accepted where names may have `long` bytes, though it may have been made under other settings, and its lists.
abbrev pub IndexedIn : (long : ℕ) → (s elements index lists : List ℕ) → Type 0
IndexedIn long s elements index lists = (edition : ℕ) × (es : List Element) × Accepts (settings long edition) s es × Indexed s es elements index × Lists long s es lists

pub accepted_own : (long : ℕ) (s elements index lists : List ℕ) → (i : IndexedIn long s elements index lists) → Accepts (settings long i.0) s (elements_of long s)
accepted_own long s elements index lists (edition, es, a, i, l) = subst (Accepts (settings long edition) s) (own long s es a.elements) a

pub indexed_own : (long : ℕ) (s elements index lists : List ℕ) → IndexedIn long s elements index lists → Indexed s (elements_of long s) elements index
indexed_own long s elements index lists (edition, es, a, i, l) = subst (λ (ds : List Element). Indexed s ds elements index) (own long s es a.elements) i

pub lists_own : (long : ℕ) (s elements index lists : List ℕ) → IndexedIn long s elements index lists → Lists long s (elements_of long s) lists
lists_own long s elements index lists (edition, es, a, i, l) = subst (λ (ds : List Element). Lists long s ds lists) (own long s es a.elements) l

pub counted_own : (long : ℕ) (s elements : List ℕ) (count : ℕ) → (edition : ℕ) → Judged (settings long edition) s elements count → length (elements_of long s) ≡ count
counted_own long s elements count edition (es, a, n, r) = rw (← own long s es a.elements) n

pub tables_own : (long : ℕ) (s R P F M : List ℕ) (n : ℕ) → Filled s (elements_of long s) R P F M n → n ≡ length (elements_of long s) + 1 → (edition : ℕ) (es : List Element) → Accepts (settings long edition) s es → Tables s es R P F M
tables_own long s R P F M n h q edition es a = filled_all long s es a.elements (settings long edition) R P F M a (rw (own long s es a.elements, ← q) h)

-- The tables at the start

abbrev Blank : (R P F : List ℕ) → Type 0
Blank R P F = (R ≡ no_rows) × (P ≡ no_places) × (F ≡ no_facts)

pub blank_lengths : {R P F : List ℕ} → Blank R P F → (length P ≡ PLACES) × (length F ≡ FACTS)
blank_lengths (a, b, c) = (rw b (length-replicate {A = ℕ} PLACES 0), rw c (length-replicate {A = ℕ} FACTS 0))

pub filled_own : (long : ℕ) (s elements index lists R P F R' P' F' M : List ℕ) → IndexedIn long s elements index lists → Blank R P F → NoMembers s M → R' ≡ document_rows R → PlacePut 0 1 1 P F P' F' → Filled s (elements_of long s) R' P' F' M 1
filled_own long s elements index lists R P F R' P' F' M i (a, b, d) none q w =
    rw (q, a) (filled_document long s (elements_of long s) (accepted_own long s elements index lists i).elements P' F' M none (rw (b, d) at w))
