-- Comment declarations (paper 02, request two): where they end, or by which number and where they are refused, in a type file and in a
-- document, in one statement.
use Rattle.std.specs.Prelude.{ℕ, ◌≡◌, refl, List, [], ◌∷◌}
use Prim.Native.String.{String}
use Rattle.rules.specs.Bytes.{separator, letter, span, separators_end}
use Rattle.rules.specs.Reading.{Reading, refused, got, and_then}
use Rattle.rules.specs.TypeFile.{before_dashes, gap_within, gap, comment_declaration, markup}
use Rattle.rules.specs.Document.{skipped, declaration_piece, markup_piece, piece}
use Rattle.document_laws.specs.Ascii.{ascii}
use Rattle.rules_laws.specs.In.{All, none, more}

-- A text that begins with a comment declaration, and where that must end in either input.
pub record Example : Type 0 where
  pub text : List ℕ
  pub in_type : Reading ℕ
  pub in_document : Reading ℕ

-- The rules read it so.
abbrev pub EndsSo : ℕ → Example → Type 0
EndsSo long x =
    (markup long x.text 0 [] [] ≡ and_then x.in_type (λ j. got (record { elements = []; lists = []; at = j }))) × (piece long x.text 0 ≡ and_then x.in_document (λ e. got (skipped e)))

pub both : String → Reading ℕ → Example
both t r = record { text = ascii t; in_type = r; in_document = r }

pub comments : List Example
comments =
    -- the paper's own
    both "<!-- old -- -- new -- >" (got 23) ∷
    both "<!-- a -- >" (got 11) ∷
    both "<!-- a -- b -->" (refused 4 10) ∷
    -- nothing between, and nothing within
    both "<!-- a ---- b -->" (got 17) ∷
    both "<!---->" (got 7) ∷
    -- `-->` that ends no comment, and one dash too many
    both "<!-- a -- -->-->" (got 16) ∷
    both "<!-- a --->" (refused 4 10) ∷
    both "<!-- a -- -x-->" (refused 4 11) ∷
    -- the input ends within a comment, behind one, and behind a dash
    both "<!-- a" (refused 4 6) ∷
    both "<!-- a -- " (refused 4 10) ∷
    both "<!-- a -- -" (refused 4 11) ∷
    -- a separator may stand before the "%"
    record { text = ascii "<!-- a -- % -->"; in_type = refused 5 10; in_document = refused 4 10 } ∷
    []

-- They ask nothing of the settings.
pub comments_right : (long : ℕ) → All (EndsSo long) comments
unfolding ascii both comments separator letter span separators_end before_dashes gap_within gap comment_declaration markup declaration_piece markup_piece piece
comments_right long =
    more (refl, refl)
    (more (refl, refl)
    (more (refl, refl)
    (more (refl, refl)
    (more (refl, refl)
    (more (refl, refl)
    (more (refl, refl)
    (more (refl, refl)
    (more (refl, refl)
    (more (refl, refl)
    (more (refl, refl)
    (more (refl, refl) none)))))))))))
