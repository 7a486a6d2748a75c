-- The options and the plain words among words.
use Rattle.std.specs.Prelude.{ℕ, ◌<◌, ◌≤◌, ◌+◌, ◌==◌, ◌&&◌, Bool, true, false, not, nat_eq, List, [], ◌∷◌, ◌++◌, take, drop, codes, Option, Some, None, option_map, option_and_then, if◌then◌else◌}
use Rattle.std.specs.List.{list_any, position, starts_with}
use Rattle.std.specs.Str.{bytes_eq}
use denote.Enum.Bare.{sameb}
use Rattle.signoff_words.specs.contracts.choice.Choice.{the_type}
use Rattle.signoff_words.specs.declared.choice.Choice.{Choice}
use Rattle.signoff_words.specs.declared.choice.Choice.TheVariants.{Budget, Workers, Store, Timeout, Replied, Dot, Progress}
use Rattle.signoff_words.specs.declared.options.Options.{Options}
use Rattle.signoff_words.specs.declared.options.TheConstants.{DEFAULT_BUDGET, DEFAULT_WORKERS, DEFAULT_TIMEOUT}
use Rattle.signoff_words.specs.declared.reading.Next.{Next}
use Rattle.signoff_words.specs.declared.reading.Next.TheVariants.{Any, ValueOf, Plain}
use Rattle.signoff_words.specs.Numbers.{number_within}

-- the option of a name
abbrev pub choice_named : List ℕ → Option Choice
choice_named name =
    if bytes_eq name (codes "--budget") then Some Budget
    else if bytes_eq name (codes "--workers") then Some Workers
    else if bytes_eq name (codes "--store") then Some Store
    else if bytes_eq name (codes "--timeout") then Some Timeout
    else if bytes_eq name (codes "--replied") then Some Replied
    else if bytes_eq name (codes "--dot") then Some Dot
    else if bytes_eq name (codes "--progress") then Some Progress
    else None

-- a value stands with it
abbrev pub has_value : Choice → Bool
has_value Budget = true
has_value Workers = true
has_value Store = true
has_value Timeout = true
has_value o = false

abbrev pub is_same : Choice → Choice → Bool
is_same = sameb the_type

-- what options say where they are left out
abbrev pub defaults : Options
defaults = record { budget = DEFAULT_BUDGET; workers = DEFAULT_WORKERS; store = None; timeout = DEFAULT_TIMEOUT; replied = false; dot = false; progress = false }

-- what an option says by a value, where the word is one
abbrev pub with_value : Choice → List ℕ → Options → Option Options
with_value Budget v s = option_map (λ n. record s { budget = n }) (number_within 1 10000000 v)
with_value Workers v s = option_map (λ n. record s { workers = n }) (number_within 1 64 v)
with_value Store v s = Some (record s { store = Some v })
with_value Timeout v s = option_map (λ n. record s { timeout = n }) (number_within 1 3600 v)
with_value Replied v s = Some (record s { replied = true })
with_value Dot v s = Some (record s { dot = true })
with_value Progress v s = Some (record s { progress = true })

-- a budget of at least 1, 1 to 64 workers, and 1 to 3,600 seconds
pub record AreBounded (o : Options) : Type 0 where
  pub budget : 0 < o.budget
  pub working : 0 < o.workers
  pub few : o.workers ≤ 64
  pub waiting : 0 < o.timeout
  pub brief : o.timeout ≤ 3600

-- what was read: what options say and which ones were given, the plain words, and what the next word may be
pub record Read : Type 0 where
  pub options : Options
  pub given : List Choice
  pub plain : List (List ℕ)
  pub next : Next

abbrev pub nothing : Read
nothing = record { options = defaults; given = []; plain = []; next = Any }

abbrev pub was_given : List Choice → Choice → Bool
was_given given o = list_any (λ old. is_same old o) given

-- an option with its value, which wasn't given before
abbrev pub with_option : Choice → List ℕ → Read → Option Read
with_option o v r =
    if was_given r.given o then None
    else option_map (λ s. record { options = s; given = r.given ++ o ∷ []; plain = r.plain; next = Any }) (with_value o v r.options)

abbrev pub with_plain : List ℕ → Read → Read
with_plain word r = record r { plain = r.plain ++ word ∷ [] }

abbrev pub has_hyphen : List ℕ → Bool
has_hyphen word = starts_with nat_eq word (45 ∷ [])

-- a word up to its first `=`, and what stands behind that
abbrev pub place_in : List ℕ → Option ℕ
place_in word = position (λ c. c == 61) word

abbrev pub name_at : Option ℕ → List ℕ → List ℕ
name_at None word = word
name_at (Some at) word = take at word

abbrev pub name_in : List ℕ → List ℕ
name_in word = name_at (place_in word) word

abbrev pub value_in : List ℕ → Option (List ℕ)
value_in word = option_map (λ at. drop (at + 1) word) (place_in word)

-- `--x` waits for its value, and `--x=v` has it; some options have none; any other word that begins with `-` and isn't `-` alone is wrong
abbrev pub with_named : Option Choice → Option (List ℕ) → List ℕ → Read → Option Read
with_named (Some o) None word r = if has_value o then Some (record r { next = ValueOf o }) else with_option o [] r
with_named (Some o) (Some v) word r = if has_value o then with_option o v r else None
with_named None v word r = if has_hyphen word && not (bytes_eq word (codes "-")) then None else Some (with_plain word r)

abbrev pub with_any : List ℕ → Read → Option Read
with_any word r = with_named (choice_named (name_in word)) (value_in word) word r

-- `--` ends the options, and a value that is waited for doesn't begin with `-`
abbrev pub with_next : Next → List ℕ → Read → Option Read
with_next Any word r = if bytes_eq word (codes "--") then Some (record r { next = Plain }) else with_any word r
with_next (ValueOf o) word r = if has_hyphen word then None else with_option o word r
with_next Plain word r = Some (with_plain word r)

abbrev pub with_word : List ℕ → Read → Option Read
with_word word r = with_next r.next word r

-- no option waits for its value
abbrev pub whole : Next → Read → Option Read
whole (ValueOf o) r = None
whole next r = Some r

abbrev pub read : List (List ℕ) → Read → Option Read
read [] r = whole r.next r
read (w ∷ ws) r = option_and_then (read ws) (with_word w r)
