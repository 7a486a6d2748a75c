use Rattle.std.specs.Prelude.{ℕ, ◌+◌, ◌%◌, Bool, cond}

-- the counter's register after a cycle
abbrev pub next_q : Bool → Bool → ℕ → ℕ
next_q rst en q = cond rst 0 (cond en ((q + 1) % 4) q)
