-- How the command line is understood.
--     NamedSource   the source of a name: standard input, a file, or none where the name begins as an option does
--     Asked         an option and some of what follows it ask for the command; the rest is left
--     NotAsked      they ask for none
--     Understood    what is answered to arguments, the program's own name left out
use Rattle.std.specs.Prelude.{◌≡◌, ◌≢◌, ◌⊎◌, ℕ, List, [], ◌∷◌, Result, Ok, Err, String, codes, string_bytes}
use Rattle.std.specs.declared.alloc.Global.{Global}
use Rattle.compare.specs.declared.options.Misuse.{Misuse}
use Rattle.compare.specs.declared.options.Misuse.TheVariants.{Nothing, Unknown, TooMany}
use Rattle.compare.specs.declared.options.Source.{Source}
use Rattle.compare.specs.declared.options.Source.TheVariants.{Stdin, File}
use Rattle.compare.specs.declared.options.Command.{Command}
use Rattle.compare.specs.declared.options.Command.TheVariants.{Help, Version, Words}

-- the bytes begin with a dash
abbrev pub Dashed : List ℕ → Type 0
Dashed bs = (cs : List ℕ) × (bs ≡ 45 ∷ cs)

abbrev pub NamedSource : String Global → Result Source Misuse → Type 0
NamedSource name (Ok Stdin) = string_bytes name ≡ codes "-"
NamedSource name (Ok (File file)) = (file ≡ name) × (Dashed (string_bytes name) → ⊥)
NamedSource name (Err Nothing) = ⊥
NamedSource name (Err (Unknown option)) = (option ≡ name) × Dashed (string_bytes name) × (string_bytes name ≢ codes "-")
NamedSource name (Err (TooMany more)) = ⊥

abbrev pub ForHelp : String Global → Type 0
ForHelp o = (string_bytes o ≡ codes "--help") ⊎ (string_bytes o ≡ codes "-h")

abbrev pub ForVersion : String Global → Type 0
ForVersion o = string_bytes o ≡ codes "--version"

abbrev pub ForWords : String Global → Type 0
ForWords o = string_bytes o ≡ codes "--words"

abbrev pub Asked : String Global → List (String Global) → Command → List (String Global) → Type 0
Asked o args Help left = ForHelp o × (left ≡ args)
Asked o args Version left = ForVersion o × (left ≡ args)
Asked o args (Words source) left = ForWords o × (((args ≡ []) × (left ≡ []) × (source ≡ Stdin)) ⊎ ((name : String Global) × (args ≡ name ∷ left) × NamedSource name (Ok source)))

-- the option is none, or what follows it is not what it takes
abbrev pub NotAsked : String Global → List (String Global) → Misuse → Type 0
NotAsked o args Nothing = ⊥
NotAsked o args (Unknown x) = ((x ≡ o) × (ForHelp o → ⊥) × (ForVersion o → ⊥) × (ForWords o → ⊥)) ⊎ (ForWords o × (left : List (String Global)) × (args ≡ x ∷ left) × NamedSource x (Err (Unknown x)))
NotAsked o args (TooMany x) = ⊥

abbrev pub Understood : List (String Global) → Result Command Misuse → Type 0
Understood [] r = r ≡ Err Nothing
Understood (o ∷ args) (Ok command) = Asked o args command []
Understood (o ∷ args) (Err Nothing) = ⊥
Understood (o ∷ args) (Err (Unknown x)) = NotAsked o args (Unknown x)
Understood (o ∷ args) (Err (TooMany x)) = (command : Command) × (left : List (String Global)) × Asked o args command (x ∷ left)
