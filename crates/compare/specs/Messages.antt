-- What the program says on standard error; `None` where the system's own words are in it.
--     source_text    where the lines come from
--     misuse_text    why the command line asks for nothing that can be done
--     failure_text   what ended the program early
use Rattle.std.specs.Prelude.{ℕ, List, ◌∷◌, ◌++◌, Option, Some, None, codes, string_bytes}
use Rattle.compare.specs.declared.Failure.{Failure}
use Rattle.compare.specs.declared.Failure.TheVariants.{Misused, Arguments, Output, Lines}
use Rattle.compare.specs.declared.filter.Trouble.TheVariants as trouble
use Rattle.compare.specs.declared.options.Misuse.{Misuse}
use Rattle.compare.specs.declared.options.Misuse.TheVariants.{Nothing, Unknown, TooMany}
use Rattle.compare.specs.declared.options.Source.{Source}
use Rattle.compare.specs.declared.options.Source.TheVariants.{Stdin, File}

abbrev pub source_text : Source → List ℕ
source_text Stdin = codes "standard input"
source_text (File name) = string_bytes name

abbrev pub misuse_text : Misuse → List ℕ
misuse_text Nothing = codes "nothing is asked for"
misuse_text (Unknown option) = codes "not understood: " ++ string_bytes option
misuse_text (TooMany more) = codes "one argument too many: " ++ string_bytes more

abbrev pub failure_text : Failure → Option (List ℕ)
failure_text (Misused misuse) = Some (misuse_text misuse ++ 10 ∷ codes "Try 'compare --help'.")
failure_text (Arguments e) = None
failure_text (Output e) = None
failure_text (Lines source (trouble.Input e)) = None
failure_text (Lines source (trouble.Output e)) = None
failure_text (Lines source trouble.Memory) = Some (codes "no memory")
