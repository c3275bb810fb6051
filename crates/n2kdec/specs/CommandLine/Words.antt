-- What the words of a command line name, by the command's definition and `clap`'s reading of it.
use Rattle.std.specs.Prelude.{◌≡◌, ◌&&◌, ◌++◌, nat_le, ℕ, List, Bool, false, Option, Some, None, Result, Ok, Err}
use Rattle.std.specs.Prelude.{if◌then◌else◌, codes, option_map}
use Rattle.std.specs.Char.{is_ascii_digit}
use Rattle.std.specs.List.{list_all}
use Rattle.std.specs.Option.{option_map_or}
use Rattle.std.specs.Str.{bytes_eq}
use Rattle.std.specs.Str.Parse.{digits_value}
use Rattle.clap.specs.Words.{Row, Text, first_of, subcommand_of}
use Rattle.n2k_join.specs.Window.{Window, shortest_window, longest_window}
use Rattle.n2k_wire.specs.Candump.{is_interface}
use Rattle.n2k_wire.specs.declared.entry.Packing.TheVariants as packed
use Rattle.n2kdec.specs.declared.command_line.asked.Command.{Command}
use Rattle.n2kdec.specs.declared.command_line.asked.ParsedArgs.{ParsedArgs}
use Rattle.n2kdec.specs.declared.command_line.asked.ParsedArgs.TheVariants as to
use Rattle.n2kdec.specs.declared.command_line.asked.Subcommand.{Subcommand}
use Rattle.n2kdec.specs.declared.command_line.asked.Subcommand.TheVariants.{Plain, Decode, Frames, Encode}
use Rattle.n2kdec.specs.declared.command_line.usage.TheConstants.{VERSION}
use Rattle.n2kdec.specs.declared.fault.Fault.{Fault}
use Rattle.n2kdec.specs.declared.fault.Fault.TheVariants.{Interface, Memory, Words}
use Rattle.n2kdec.specs.CommandLine.Usage.{program_app}

-- whether a flag is among the words: `clap` gives it the value `true` then
abbrev pub flag_of : Text → List Row → Bool
flag_of id rows = option_map_or (λ value. bytes_eq value (codes "true")) (first_of id rows) false

-- the lines of a window, in decimal digits
abbrev pub lines_in : Text → Option ℕ
lines_in text =
    if list_all is_ascii_digit text &&
    (nat_le shortest_window (digits_value 10 text) && nat_le (digits_value 10 text) longest_window)
    then Some (digits_value 10 text) else None

-- those of a window without `--window`
abbrev pub default_window : ℕ
default_window = 10_000

abbrev pub lines_by : Option Text → Option ℕ
lines_by None = Some default_window
lines_by (Some text) = lines_in text

-- what ends a group; none if `--window` has an invalid value
abbrev pub window_of : List Row → Option Window
window_of rows =
    option_map (λ lines. record { lines = lines; in_order = flag_of (codes "in-order") rows })
    (lines_by (first_of (codes "window") rows))

-- a command over these files
abbrev pub over : Option Text → Option Text → Option Text → Subcommand → Command
over table state log task = record { files = record { table = table; state = state; log = log }; task = task }

-- the interface of this name, if the name has the form of one
abbrev pub judged : Option Text → Result (Option Text) Fault
judged None = Ok None
judged (Some name) = if is_interface name then Ok (Some name) else Err Interface

-- the commands of a subcommand's words that have a table
abbrev pub decode_by : Option Text → Option Window → List Row → Result Command Fault
decode_by (Some table) (Some window) rows =
    Ok (over (Some table) (first_of (codes "resume") rows) (first_of (codes "log") rows) (Decode (record {
      packing = if flag_of (codes "whole") rows then packed.Whole else packed.Frames;
      empty = flag_of (codes "empty") rows;
      window = window;
    }) (first_of (codes "save") rows)))
decode_by _ _ rows = Err Words

abbrev pub frames_by : Option Text → Result (Option Text) Fault → List Row → Result Command Fault
frames_by None interface rows = Err Words
frames_by (Some table) (Ok interface) rows =
    Ok (over (Some table) None (first_of (codes "log") rows) (Frames interface))
frames_by (Some table) (Err fault) rows = Err fault

abbrev pub encode_by : Option Text → List Row → Result Command Fault
encode_by None rows = Err Words
encode_by (Some table) rows =
    Ok (over (Some table) None (first_of (codes "log") rows) (Encode (flag_of (codes "nearest") rows)))

-- the command of that name, with the values of its words
abbrev pub named : Option (Text × List Row) → Result Command Fault
named None = Err Words
named (Some p) =
    if bytes_eq p.0 (codes "plain") then Ok (over None None (first_of (codes "log") p.1) Plain)
    else (if bytes_eq p.0 (codes "decode") then decode_by (first_of (codes "table") p.1) (window_of p.1) p.1
    else (if bytes_eq p.0 (codes "frames")
    then frames_by (first_of (codes "table") p.1) (judged (first_of (codes "candump") p.1)) p.1
    else (if bytes_eq p.0 (codes "encode") then encode_by (first_of (codes "table") p.1) p.1 else Err Words)))

-- the command that the words name, the program's name first, or why they name none
unfoldable pub command_of : List Text → Result Command Fault
command_of words = named (subcommand_of program_app words)

-- the text of the version, as `n2kdec 1.0.0` with an LF
abbrev pub version_text : Text
version_text = codes "n2kdec " ++ VERSION.now ++ codes "\n"

-- this is answered, or memory was refused
abbrev pub Names : Result Command Fault → Result Command Fault → Type 0
Names asked (Ok command) = asked ≡ Ok command
Names asked (Err Words) = asked ≡ Err Words
Names asked (Err Interface) = asked ≡ Err Interface
Names asked (Err (Memory read)) = read ≡ None
Names asked (Err _) = ⊥

-- the same of what was typed
abbrev pub NamesIn : Result Command Fault → ParsedArgs → Type 0
NamesIn asked (to.Help text) = ⊥
NamesIn asked (to.Command command) = Names asked (Ok command)
NamesIn asked (to.Refused fault lines) = Names asked (Err fault)
