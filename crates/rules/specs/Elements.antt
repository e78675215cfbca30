-- The elements of a type by number and by name (paper 01, "What the reader takes and gives", "The document").
use Rattle.std.specs.Prelude.{ℕ, zero, suc, ◌+◌, ◌-◌, Bool, true, false, not, ◌&&◌, List, [], ◌∷◌, eqb}
use Rattle.rules.specs.Bytes.{same_text}
use Rattle.rules.specs.Walk.{place}
use Rattle.rules.specs.Attributes.{needs_tag}
use Rattle.rules.specs.TypeFile.{Place, Content, empty, model, Element, element_with}

-- The k-th element of the type, from 0.
unfoldable pub element_at : List Element → ℕ → Element
element_at [] k = element_with 0 0 0 0 empty 0 []
element_at (e ∷ es) zero = e
element_at (e ∷ es) (suc k) = element_at es k

-- The element has the name of this size at `at` in the text t, folded.
abbrev pub is_named : List ℕ → Element → (t : List ℕ) (at size : ℕ) → Bool
is_named s e t at size = elim (eqb e.size size) [ true ↦ same_text s e.at t at size | false ↦ false ]

-- "Element number from 1": the number of the element that has that name, 0 if none has. The first of these elements has the number k.
unfoldable pub number_from : ℕ → List ℕ → List Element → (t : List ℕ) (at size : ℕ) → ℕ
number_from k s [] t at size = 0
number_from k s (e ∷ es) t at size = elim (is_named s e t at size) [ true ↦ k | false ↦ number_from (k + 1) s es t at size ]

unfoldable pub number_of : List ℕ → List Element → (t : List ℕ) (at size : ℕ) → ℕ
number_of s es t at size = number_from 1 s es t at size

-- "With nothing open yet, only the document element may come next, and it is required": the document itself is number 0, and its model is
-- the first declared element.
abbrev pub content_of : List Element → ℕ → Content
content_of es zero = model (place 1) (record { at = (element_at es 0).at; size = (element_at es 0).size } ∷ []) 1
content_of es (suc k) = (element_at es k).content

-- The places of a model; EMPTY has none.
abbrev pub places_in : Content → List Place
places_in empty = []
places_in (model g ps n) = ps

abbrev pub has_model : Content → Bool
has_model empty = false
has_model (model g ps n) = true

-- The start tag may be left out: "O". But "an element with a required attribute never has its start inferred (7.3.1.1)" (paper 02, request one).
abbrev pub start_o : List Element → ℕ → Bool
start_o es k = eqb (element_at es (k - 1)).start 1 && not (needs_tag (element_at es (k - 1)).attributes)

-- The end tag may be left out: "O".
abbrev pub end_o : List Element → ℕ → Bool
end_o es k = eqb (element_at es (k - 1)).end 1
