-- Laws of the rules' name of an element: each way that reading one goes.
use Rattle.std.specs.Prelude.{ℕ, ◌-◌, ◌≤◌, ◌<◌, ◌≡◌, true, false, List, length}
use borrow.Author.Tests.{eq-eqb, ne_eqb, lt-ltb, le-ltb, le-leb, lt-leb}
use Rattle.rules.specs.Bytes.{byte_at, letter, name_end, GRPO, element_limit}
use Rattle.rules.specs.Reading.{refused, got}
use Rattle.rules.specs.TypeFile.{is_declared, unfit, element_name}
use Rattle.rules.specs.TypeFile as rules

-- The element's name.
module _ (long : ℕ) (s : List ℕ) (i : ℕ) (es : List rules.Element) where
  pub name_long : letter (byte_at s i) ≡ true → long < name_end s i - i → element_name long s i es ≡ refused 3 i
  unfolding element_name
  name_long l h = rw (l, lt-ltb _ _ h, element_name)

  module _ (l : letter (byte_at s i) ≡ true) (h : name_end s i - i ≤ long) where
    pub name_again : is_declared s es i (name_end s i - i) ≡ true → element_name long s i es ≡ refused 7 i
    unfolding element_name
    name_again d = rw (l, le-ltb _ _ h, d, element_name)

    pub name_many : is_declared s es i (name_end s i - i) ≡ false → element_limit ≤ length es → element_name long s i es ≡ refused 8 i
    unfolding element_name
    name_many d m = rw (l, le-ltb _ _ h, d, le-leb _ _ m, element_name)

    pub name_got : is_declared s es i (name_end s i - i) ≡ false → length es < element_limit → element_name long s i es ≡ got (name_end s i)
    unfolding element_name
    name_got d m = rw (l, le-ltb _ _ h, d, lt-leb _ _ m, element_name)

  pub name_group : letter (byte_at s i) ≡ false → byte_at s i ≡ GRPO → element_name long s i es ≡ refused 5 i
  unfolding element_name
  name_group l b = rw (l, eq-eqb _ _ b, element_name)

  pub name_unfit : letter (byte_at s i) ≡ false → (byte_at s i ≡ GRPO → ⊥) → element_name long s i es ≡ unfit s i
  unfolding element_name
  name_unfit l b = rw (l, ne_eqb _ _ b, element_name)
