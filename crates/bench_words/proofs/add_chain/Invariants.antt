use Rattle.bench_words.specs.Chains.{EndsIn}
use Rattle.bench_words.proofs.add_chain.Given as goal

abbrev pub invariant-loop : goal.invariant-loop
invariant-loop l = EndsIn l.dag l.last × EndsIn l.dag l.first
