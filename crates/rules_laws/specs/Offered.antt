-- The settings that a call takes: how long a name may be under them, and which edition they name.
use Rattle.std.specs.Prelude.{ℕ, ◌≤◌, ◌≡◌, Bool, true, ◌&&◌, leb}
use Rattle.std.proofs.Common.{leb-true}
use Rattle.basic_laws.specs.Truth.{and_split}
use Rattle.rules.specs.Settings.{Settings, is_offered, least_name_length, most_name_length, first_edition, second_edition}

-- A number is in the range for which the test asks, and what is asked behind it holds.
in_range : (from n to : ℕ) (b : Bool) → (leb from n && (leb n to && b)) ≡ true → (from ≤ n) × (n ≤ to) × (b ≡ true)
in_range from n to b h =
    let (least, rest) = and_split (leb from n) (leb n to && b) h in
    let (most, other) = and_split (leb n to) b rest in
    (leb-true _ _ least, leb-true _ _ most, other)

pub offered_range : (c : Settings) → is_offered c ≡ true → (least_name_length ≤ c.name_length) × (c.name_length ≤ most_name_length)
unfolding is_offered
offered_range c h =
    let (least, most, rest) = in_range least_name_length c.name_length most_name_length (leb first_edition c.edition && leb c.edition second_edition) h in
    (least, most)
