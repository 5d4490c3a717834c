-- The words that are taken, and the command that they ask for.
use Rattle.std.specs.Prelude.{◌≡◌, ◌≤◌, ⊤, ℕ, List, [], ◌∷◌, Option, IfSome, codes, map, String, string_bytes}
use Rattle.std.specs.declared.alloc.Global.{Global}
use Rattle.sc_worker.specs.declared.plan.Plan.{Plan}
use Rattle.sc_worker.specs.Plans.{IsPlan}
use Rattle.sc_top_words.specs.declared.commands.Command.{Command}
use Rattle.sc_top_words.specs.declared.commands.Command.TheVariants.{Check, Prove, Model, Bench}
use Rattle.sc_top_words.specs.declared.options.OptionName.TheVariants.{Finders, Size, Upto, Nodes, Candidates, Workers}
use Rattle.sc_top_words.specs.Options.{Given, Spell, row_of, values_of, IsChoice, IsKept, IsValue}

-- the bytes of each word
abbrev pub texts : List (String Global) → List (List ℕ)
texts words = map (λ (word : String Global). string_bytes word) words

-- the word of the command
abbrev pub word_of : Command → List ℕ
word_of Check = codes "check"
word_of (Prove plan) = codes "prove"
word_of (Model size upto nodes workers) = codes "model"
word_of (Bench rungs) = codes "bench"

-- the words behind `prove` ask for the plan, and there is no word about a last size or workers among them
pub record AskForPlan (words : List (List ℕ)) (plan : Plan) : Type 0 where
  pub options : List Given
  pub spelled : Spell words options
  pub finders : IsChoice options Finders plan.finders
  pub first_size : IsChoice options Size plan.first_size
  pub nodes : IsChoice options Nodes plan.nodes
  pub candidates : IsChoice options Candidates plan.candidates
  pub no_upto : values_of Upto options ≡ []
  pub no_workers : values_of Workers options ≡ []

-- the words behind `model` ask for the first size, the last one, where it is given, which isn't below the first, the budget of
-- nodes for each piece, and so many workers
pub record AskForModel (words : List (List ℕ)) (size : ℕ) (upto : Option ℕ) (nodes workers : ℕ) : Type 0 where
  pub options : List Given
  pub spelled : Spell words options
  pub is_size : IsChoice options Size size
  pub is_last : IsKept (row_of Upto) upto (values_of Upto options)
  pub not_below : IfSome upto (λ (last : ℕ). size ≤ last)
  pub is_budget : IsChoice options Nodes nodes
  pub are_workers : IsChoice options Workers workers
  pub no_finders : values_of Finders options ≡ []
  pub no_candidates : values_of Candidates options ≡ []

-- the one word behind `bench` asks for so many rungs, 1 to 1,000
abbrev pub AskForRungs : List (List ℕ) → ℕ → Type 0
AskForRungs words rungs = (word : List ℕ) × (words ≡ word ∷ []) × IsValue 1 1000 word rungs

-- the words behind a command's word ask for the command
abbrev pub AskFor : List (List ℕ) → Command → Type 0
AskFor words Check = words ≡ []
AskFor words (Prove plan) = AskForPlan words plan
AskFor words (Model size upto nodes workers) = AskForModel words size upto nodes workers
AskFor words (Bench rungs) = AskForRungs words rungs

-- the words ask for the command: the first is its word, and those behind it fit
abbrev pub Asks : List (String Global) → Command → Type 0
Asks words command = (behind : List (List ℕ)) × (texts words ≡ word_of command ∷ behind) × AskFor behind command

-- the sizes, the budget of nodes and the workers are in their ranges, and the last size isn't below the first
pub record IsModelSearch (size : ℕ) (upto : Option ℕ) (nodes workers : ℕ) : Type 0 where
  pub some_size : 1 ≤ size
  pub small : size ≤ 8
  pub not_below : IfSome upto (λ (last : ℕ). size ≤ last)
  pub greatest_small : IfSome upto (λ (last : ℕ). last ≤ 8)
  pub some_nodes : 1 ≤ nodes
  pub few_nodes : nodes ≤ 10000000
  pub some_workers : 1 ≤ workers
  pub few_workers : workers ≤ 8

-- the numbers that are asked for are in their ranges
abbrev pub IsInRange : Command → Type 0
IsInRange Check = ⊤
IsInRange (Prove plan) = IsPlan plan
IsInRange (Model size upto nodes workers) = IsModelSearch size upto nodes workers
IsInRange (Bench rungs) = (1 ≤ rungs) × (rungs ≤ 1000)
