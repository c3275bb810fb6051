-- What the bits of a field mean, as a caller gets it who writes them.
use Rattle.std.specs.Prelude.{ℕ, ◌≤◌}
use Rattle.n2k_table.specs.declared.coding.Coding.{Coding}
use Rattle.n2k_table.specs.declared.coding.Coding.TheVariants as code
use Rattle.n2k_table.specs.Field.{Meaning, number, shifted, named, flags, text, bytes, digits, string}

abbrev pub coded_meaning : Coding → Meaning
coded_meaning (code.Number signed resolution) = number signed resolution
coded_meaning (code.Shifted offset resolution) = shifted offset resolution
coded_meaning (code.Lookup lookup) = named lookup.now.entries
coded_meaning (code.Flags lookup) = flags lookup.now.entries
coded_meaning code.Text = text
coded_meaning code.Bytes = bytes
coded_meaning code.Digits = digits
coded_meaning (code.String form) = string form

-- a field with that meaning may have so many bits
abbrev pub HasWidth : Coding → ℕ → Type 0
HasWidth (code.Number signed resolution) bits = (1 ≤ bits) × (bits ≤ 64)
HasWidth (code.Shifted offset resolution) bits = (1 ≤ bits) × (bits ≤ 64)
HasWidth (code.Lookup lookup) bits = (1 ≤ bits) × (bits ≤ 64)
HasWidth (code.Flags lookup) bits = (1 ≤ bits) × (bits ≤ 64)
HasWidth code.Text bits = Unit {0}
HasWidth code.Bytes bits = Unit {0}
HasWidth code.Digits bits = Unit {0}
HasWidth (code.String form) bits = Unit {0}
