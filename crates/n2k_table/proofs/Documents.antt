-- The document that bytes spell, as the crate `toml` reads it.
use Rattle.std.proofs.Common.{arith, ◌≡◌, ◌≢◌, ℕ, false, List, [], Some, None, Result, Ok, Err, IfOk, All, refl, inl, inr, Contains, IfErr}
use Rattle.std.specs.Str.{is_utf8, IsUtf8}
use Rattle.std.proofs.lemmas.Bool.{cases_Bool}
use Rattle.std.proofs.lemmas.Str.{IsUtf8-from_is_utf8, is_utf8-from_IsUtf8}
use Rattle.toml.specs.Data.{Members}
use Rattle.toml.specs.Parse.{parse_document}
use Rattle.n2k_table.specs.declared.fault.TableFault.{TableFault}
use Rattle.n2k_table.specs.declared.fault.TableFault.TheVariants.{NotToml, Memory}
use Rattle.n2k_table.specs.Duplicate.{has_duplicate}
use Rattle.n2k_table.specs.Reading.{ReaderGives}
use Rattle.n2k_wire.specs.Steps.{or_cause}
use Rattle.n2k_table.specs.Table.{TableParts, document, are_mixed, read_table, faults, table, kind}
use Rattle.n2k_table.proofs.OneKind.{one_kind}

pub document_some : (bytes : List ℕ) (top : Members) → IsUtf8 bytes → parse_document bytes ≡ Some top → or_cause NotToml (document bytes) ≡ Ok top
document_some bytes top utf8 parsed = rw (is_utf8-from_IsUtf8 bytes utf8, parsed) refl

pub document_none : (bytes : List ℕ) → (IsUtf8 bytes → parse_document bytes ≡ None) → or_cause NotToml (document bytes) ≡ Err NotToml
document_none bytes refused =
    elim (cases_Bool (is_utf8 bytes)) [
      | inl utf8 ↦ rw (utf8, refused (IsUtf8-from_is_utf8 bytes utf8)) refl
      | inr other ↦ rw other refl
    ]

-- ---- what is read, in the words for its fault and its table

pub read_sound : (r : Result TableParts TableFault) (bytes : List ℕ) → ReaderGives (λ t. t) r (read_table bytes) → IfOk r (λ t. (faults bytes ≡ []) × (t ≡ table bytes))
read_sound r bytes given = grind arith

pub read_stands : (r : Result TableParts TableFault) (bytes : List ℕ) → ReaderGives (λ t. t) r (read_table bytes) → IfErr r (λ fault. fault ≢ Memory → Contains (faults bytes) fault)
read_stands r bytes given = grind arith

pub read_kinds : (r : Result TableParts TableFault) → IfOk r (λ t. has_duplicate are_mixed t.definitions ≡ false) → IfOk r (λ t. All (λ d. kind t d.pgn ≡ Some d.kind) t.definitions)
read_kinds r pure = grind (arith, one_kind)
