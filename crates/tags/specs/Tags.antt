-- The rules' tag that an answer of the code stands for, and each way that the rules read one.
use Rattle.std.specs.Prelude.{ℕ, Result, ◌+◌, ◌-◌, ◌≤◌, ◌<◌, ◌≡◌, List, []}
use borrow.Author.Tests.{eq-eqb, ne_eqb, lt-ltb, le-ltb}
use Rattle.rules.specs.Bytes.{byte_at, name_end, separators_end, MDC}
use Rattle.rules.specs.Reading.{Reading, refused, got}
use Rattle.rules.specs.Document.{tag, Written}
use Rattle.rules.specs.Document as rules
use Rattle.text.specs.declared.Fault.{Fault}
use Rattle.text.specs.Refusal.{reading}
use Rattle.tags.specs.declared.Tag.{Tag}

-- The rules' tag that gives these attributes.
abbrev pub tag_with : List Written → Tag → rules.Tag
tag_with ws t = record { name = t.name; size = t.size; after = t.after; written = ws }

-- An end tag gives none.
abbrev pub tag_in : Tag → rules.Tag
tag_in t = tag_with [] t

abbrev pub tag_of : Result Tag Fault → Reading rules.Tag
tag_of r = reading tag_in r

-- A tag where names may have `long` bytes, whose name ends at e and whose separators end at j.
module _ (long : ℕ) (s : List ℕ) (at e : ℕ) (q : e ≡ name_end s at) where
  pub tag_long : long < e - at → refused 3 at ≡ tag long s at
  unfolding tag
  tag_long h = rw (tag, lt-ltb _ _ (rw q at h))

  module _ (j : ℕ) (p : j ≡ separators_end s e) (h : e - at ≤ long) where
    pub tag_read : byte_at s j ≡ MDC → got (record { name = at; size = e - at; after = j + 1; written = [] }) ≡ tag long s at
    unfolding tag
    tag_read g = rw (p, q, tag, le-ltb _ _ (rw q at h), eq-eqb _ _ (rw (p, q) at g))

    pub tag_open : (byte_at s j ≡ MDC → ⊥) → refused 4 j ≡ tag long s at
    unfolding tag
    tag_open g = rw (p, q, tag, le-ltb _ _ (rw q at h), ne_eqb _ _ (rw (p, q) at g))
