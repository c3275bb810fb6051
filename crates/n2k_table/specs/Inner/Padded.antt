-- A text that is appended to many lines, as the code keeps it.
use Rattle.std.specs.Prelude.{◌≡◌, ◌≤◌, ℕ, nat_le, List, take, length, if◌then◌else◌}

-- Up to 32 bytes stand in front, and more apart.
abbrev pub padded_text : ℕ → List ℕ → List ℕ → List ℕ
padded_text len prefix long = if nat_le len 32 then take len prefix else long

-- The text has so many bytes, and if the front has room for them, it begins with them.
pub record IsPadded (len : ℕ) (prefix long : List ℕ) : Type 0 where
  pub size : length (padded_text len prefix long) ≡ len
  pub begins : len ≤ 33 → take len prefix ≡ padded_text len prefix long
