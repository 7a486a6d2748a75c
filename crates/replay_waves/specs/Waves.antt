-- A counterexample as a value change dump (IEEE 1364-2005, clause 18). A cycle takes ten units of time: its clock rises at its beginning and
-- falls in its middle.
use Rattle.std.specs.Prelude.{ℕ, zero, suc, ◌+◌, ◌-◌, ◌*◌, ◌%◌, ◌^◌, max, nat_eq, nat_lt, Bool, true, false, not, ◌||◌, List, [], ◌++◌, length, slice_index, slice_index_or, codes, Option, Some, None, if◌then◌else◌}
use Rattle.std.specs.List.{enumerate_from, flat_map, list_any}
use Rattle.std.specs.Str.{bytes_eq}
use Rattle.replay_waves.specs.declared.wave.First.{First}
use Rattle.replay_waves.specs.declared.wave.Signal.{Signal}
use Rattle.replay_waves.specs.declared.wave.Wave.{Wave}
use Rattle.replay_waves.specs.declared.wave.Kind.TheVariants.{Wire, Reg, Integer}
use Rattle.replay_waves.specs.Parts.{declared, scalar, scope, time, upscope, value_text, vector}

-- ---- variables: of each window its clock, its cycle and its signals, and then the registers

-- the number of the first variable of the second window, and of the first register
abbrev pub second_number : Wave → ℕ
second_number wave = 2 + length wave.signals

abbrev pub start_number : Wave → ℕ
start_number wave = 2 * second_number wave

abbrev pub has_signal : List Signal → List ℕ → Bool
has_signal signals name = list_any (λ (s : Signal). bytes_eq s.name name) signals

-- a text about a variable of the dump's own, unless a signal has its name
abbrev pub own : Wave → List ℕ → List ℕ → List ℕ
own wave name text = if has_signal wave.signals name then [] else text

abbrev pub signal_scopes : ℕ → List Signal → List ℕ
signal_scopes number signals = flat_map (λ p. declared Wire p.1.width (number + p.0) p.1.name) (enumerate_from 0 signals)

-- the scope of a window
unfoldable pub window_scope : Wave → List ℕ → ℕ → List ℕ
window_scope wave name number =
    scope name ++ own wave wave.clock (declared Wire 1 number wave.clock) ++ own wave (codes "cycle") (declared Integer 32 (number + 1) (codes "cycle"))
    ++ signal_scopes (number + 2) wave.signals ++ upscope

abbrev pub both_scopes : Wave → List ℕ
both_scopes wave = window_scope wave (codes "first") 0 ++ window_scope wave (codes "second") (second_number wave)

-- one window, or two
abbrev pub window_scopes : Wave → Option (List (List ℕ)) → List ℕ
window_scopes wave None = window_scope wave (codes "segment") 0
window_scopes wave (Some second) = both_scopes wave

abbrev pub register_scopes : ℕ → List First → List ℕ
register_scopes number firsts = flat_map (λ p. declared Reg p.1.width (number + p.0) p.1.name) (enumerate_from 0 firsts)

-- the scope of the registers, where there are any
unfoldable pub start_scope : Wave → List ℕ
start_scope wave = if nat_eq (length wave.firsts) 0 then [] else scope (codes "start") ++ register_scopes (start_number wave) wave.firsts ++ upscope

-- ---- cycles

-- reset cycles are numbered from -k to -1, in two's complement of 32 bits, and the others from 0 on
abbrev pub cycle_number : ℕ → ℕ → ℕ
cycle_number before i = if nat_lt i before then 2 ^ 32 - (before - i) else (i - before) % 2 ^ 32

-- the value of a signal in a cycle
abbrev pub value_at : List (List ℕ) → ℕ → ℕ → ℕ
value_at rows i k = slice_index (slice_index_or rows i []) k

-- whether it is the first one, or not that of the cycle before
abbrev pub is_new : List (List ℕ) → ℕ → ℕ → Bool
is_new rows i k = nat_eq i 0 || not (nat_eq (value_at rows i k) (value_at rows (i - 1) k))

-- the values of a cycle that are new
abbrev pub changes : List Signal → List (List ℕ) → ℕ → ℕ → List ℕ
changes signals rows number i =
    flat_map (λ p. if is_new rows i p.0 then value_text p.1.width (number + p.0) (value_at rows i p.0) else []) (enumerate_from 0 signals)

-- the clock rises, and the cycle has a number
unfoldable pub counted : Wave → ℕ → ℕ → ℕ → List ℕ
counted wave before number i =
    own wave wave.clock (scalar number true) ++ own wave (codes "cycle") (vector (number + 1) (cycle_number before i))

-- a window at the beginning of a cycle; behind its last cycle nothing changes
unfoldable pub rise : Wave → List (List ℕ) → ℕ → ℕ → ℕ → List ℕ
rise wave rows before number i =
    if nat_lt i (length rows) then counted wave before number i ++ changes wave.signals rows (number + 2) i else []

-- and in the middle of a cycle, where its clock falls
unfoldable pub fall : Wave → List (List ℕ) → ℕ → ℕ → List ℕ
fall wave rows number i = if nat_lt i (length rows) then own wave wave.clock (scalar number false) else []

abbrev pub second_rise : Wave → Option (List (List ℕ)) → ℕ → List ℕ
second_rise wave None i = []
second_rise wave (Some rows) i = rise wave rows 0 (second_number wave) i

abbrev pub second_fall : Wave → Option (List (List ℕ)) → ℕ → List ℕ
second_fall wave None i = []
second_fall wave (Some rows) i = fall wave rows (second_number wave) i

abbrev pub rises : Wave → ℕ → List ℕ
rises wave i = rise wave wave.first wave.before 0 i ++ second_rise wave wave.second i

abbrev pub falls : Wave → ℕ → List ℕ
falls wave i = fall wave wave.first 0 i ++ second_fall wave wave.second i

-- the first values of the registers
abbrev pub starts : ℕ → List First → List ℕ
starts number firsts = flat_map (λ p. value_text p.1.width (number + p.0) p.1.value) (enumerate_from 0 firsts)

-- the beginning of a cycle; that of the first one has all values, those of the registers too (18.2.3)
unfoldable pub beginning : Wave → ℕ → List ℕ
beginning wave i =
    if nat_eq i 0 then codes "$dumpvars\n" ++ rises wave i ++ starts (start_number wave) wave.firsts ++ codes "$end\n" else rises wave i

unfoldable pub cycle_text : Wave → ℕ → List ℕ
cycle_text wave i = time (10 * i) ++ beginning wave i ++ time (10 * i + 5) ++ falls wave i

-- the texts of 0 to n - 1
abbrev pub each : (ℕ → List ℕ) → ℕ → List ℕ
each text zero = []
each text (suc n) = each text n ++ text n

-- how many cycles are shown
abbrev pub count_of : List (List ℕ) → Option (List (List ℕ)) → ℕ
count_of first None = length first
count_of first (Some second) = max (length first) (length second)

-- ---- the whole dump: what is declared, the cycles, and the time at which the last one ends

unfoldable pub declarations : Wave → List ℕ
declarations wave =
    codes "$version signoff $end\n$timescale 1 ns $end\n" ++ window_scopes wave wave.second ++ start_scope wave ++ codes "$enddefinitions $end\n"

unfoldable pub wave_text : Wave → List ℕ
wave_text wave =
    declarations wave ++ each (cycle_text wave) (count_of wave.first wave.second) ++ time (10 * count_of wave.first wave.second)
