-- The options that stand behind a command's word: how words spell them, and the value that is asked for each name.
use Rattle.std.specs.Prelude.{◌≡◌, ◌<◌, ◌≤◌, ◌⊎◌, ⊤, ℕ, Bool, List, [], ◌∷◌, ◌++◌, Option, Some, None, true, false, codes, length, map, filter}
use Rattle.std.specs.List.{list_all}
use Rattle.std.specs.Str.Parse.{digits_value}
use Rattle.sc_input_rules.specs.Tokens.{is_digit}
use Rattle.sc_top_words.specs.declared.options.OptionName.{OptionName}
use Rattle.sc_top_words.specs.declared.options.OptionName.TheVariants.{Finders, Size, Upto, Nodes, Candidates, Workers}
use Rattle.sc_top_words.specs.declared.options.Row.{Row}

-- ---- names and values

-- the word of the name
abbrev pub spelling : OptionName → List ℕ
spelling Finders = codes "--finders"
spelling Size = codes "--size"
spelling Upto = codes "--upto"
spelling Nodes = codes "--nodes"
spelling Candidates = codes "--candidates"
spelling Workers = codes "--workers"

-- the numbers that are taken for the name, from the lowest to the highest, and the usual one; a last size is asked for only
-- where it is given, so that nothing rests on the usual one of `Upto`
abbrev pub row_of : OptionName → Row
row_of Finders = record { low = 0; high = 8; usual = 2 }
row_of Size = record { low = 1; high = 8; usual = 2 }
row_of Upto = record { low = 1; high = 8; usual = 8 }
row_of Nodes = record { low = 1; high = 10000000; usual = 100000 }
row_of Candidates = record { low = 0; high = 128; usual = 128 }
row_of Workers = record { low = 1; high = 8; usual = 1 }

-- 1 to 10 digits spell the number, which is in the range
pub record IsValue (low high : ℕ) (digits : List ℕ) (n : ℕ) : Type 0 where
  pub some : 0 < length digits
  pub few : length digits ≤ 10
  pub are_digits : list_all is_digit digits ≡ true
  pub spelled : n ≡ digits_value 10 digits
  pub not_below : low ≤ n
  pub not_above : n ≤ high

-- ---- options

-- an option as it is given: its name, and the bytes of its value
pub record Given : Type 0 where
  pub name : OptionName
  pub value : List ℕ

-- name and value in one word
abbrev pub in_one : Given → List ℕ
in_one option = spelling option.name ++ codes "=" ++ option.value

-- the option stands first among the words, in one word or in two, and these others stand behind it
abbrev pub IsFirst : List (List ℕ) → Given → List (List ℕ) → Type 0
IsFirst words option behind = (words ≡ in_one option ∷ behind) ⊎ (words ≡ spelling option.name ∷ option.value ∷ behind)

-- the words spell the options, one after another
abbrev pub Spell : List (List ℕ) → List Given → Type 0
Spell words [] = words ≡ []
Spell words (option ∷ options) = (behind : List (List ℕ)) × IsFirst words option behind × Spell behind options

-- ---- what is asked for a name

-- they are one name
abbrev pub is_same : OptionName → OptionName → Bool
is_same Finders Finders = true
is_same Size Size = true
is_same Upto Upto = true
is_same Nodes Nodes = true
is_same Candidates Candidates = true
is_same Workers Workers = true
is_same name other = false

-- the values that the options give for the name
abbrev pub values_of : OptionName → List Given → List (List ℕ)
values_of name options = map (λ (option : Given). option.value) (filter (λ (option : Given). is_same name option.name) options)

-- the value that these ask for: the one that is given, which is in the range, or the usual one where none is given; where
-- more than one is given, nothing is asked for
abbrev pub IsChosen : Row → List (List ℕ) → ℕ → Type 0
IsChosen row [] n = n ≡ row.usual
IsChosen row (value ∷ []) n = IsValue row.low row.high value n
IsChosen row (value ∷ other ∷ values) n = ⊥

-- the value that the options ask for the name
abbrev pub IsChoice : List Given → OptionName → ℕ → Type 0
IsChoice options name n = IsChosen (row_of name) (values_of name options) n

-- the number is that of the one value that is given, which is in the range, and there is none where no value is given
abbrev pub IsKept : Row → Option ℕ → List (List ℕ) → Type 0
IsKept row None [] = ⊤
IsKept row None (value ∷ values) = ⊥
IsKept row (Some n) [] = ⊥
IsKept row (Some n) (value ∷ []) = IsValue row.low row.high value n
IsKept row (Some n) (value ∷ other ∷ values) = ⊥
