-- Bytes that were taken from a connection, one read after another.
use Rattle.std.proofs.Common.{◌≡◌, ℕ, ◌+◌, List, [], ◌++◌, take, length, Option, Some, None, IfSome, refl, sym, ap, subst, ◌∙◌, append-nil, length-append}
use Rattle.std.proofs.lemmas.List.{take-append-drop}
use Rattle.std.specs.Option.{option_map}
use Rattle.outside.specs.Port.{Wire, read_off}
use Rattle.desk_http_request.specs.Reading.{TakesBytes}
use Rattle.desk_http_request.proofs.Lines.{take_plus, drop_plus}

at_mid : (P : Option Wire → Type 0) (old mid : Option Wire) (n : ℕ) → mid ≡ option_map (read_off n) old → P mid → P (option_map (read_off n) old)
at_mid P old mid n e p = subst P e p

pub step_twice : (old : Option Wire) (n m : ℕ) → option_map (read_off m) (option_map (read_off n) old) ≡ option_map (read_off (n + m)) old
step_twice None n m = refl
step_twice (Some w) n m = ap (λ (u : List ℕ). let x : Wire = record w { unread = u } in Some x) (drop_plus n m w.unread)

joined : (old : Option Wire) (b d : List ℕ) → IfSome old (λ w. b ≡ take (length b) w.unread)
    → IfSome (option_map (read_off (length b)) old) (λ w. d ≡ take (length d) w.unread)
    → IfSome old (λ w. b ++ d ≡ take (length b + length d) w.unread)
joined None b d p q = tt
joined (Some w) b d p q = ap (λ l. l ++ d) p ∙ ap (λ l. take (length b) w.unread ++ l) q ∙ take_plus (length b) (length d) w.unread

whole : (old : Option Wire) (b : List ℕ) → IfSome old (λ w. b ≡ take (length b) w.unread)
    → IfSome (option_map (read_off (length b)) old) (λ w. w.unread ≡ []) → IfSome old (λ w. b ≡ w.unread)
whole None b p q = tt
whole (Some w) b p q = sym (append-nil b) ∙ ap (λ l. l ++ []) p ∙ ap (λ l. take (length b) w.unread ++ l) (sym q) ∙ take-append-drop (length b) w.unread

-- one more read
pub takes_more : (old mid new : Option Wire) (b d has : List ℕ) → TakesBytes old mid b → TakesBytes mid new d → has ≡ b ++ d → TakesBytes old new has
takes_more old mid new b d has p q e =
    let n : length has ≡ length b + length d = ap length e ∙ length-append b d in
    let moved : new ≡ option_map (read_off (length has)) old =
    q.0 ∙ ap (option_map (read_off (length d))) p.0 ∙ step_twice old (length b) (length d) ∙ ap (λ k. option_map (read_off k) old) (sym n) in
    let rest = at_mid (λ m. IfSome m (λ w. d ≡ take (length d) w.unread)) old mid (length b) p.0 q.1 in
    let all : IfSome old (λ w. has ≡ take (length has) w.unread) =
    subst (λ l. IfSome old (λ w. l ≡ take (length has) w.unread)) (sym e)
    (subst (λ k. IfSome old (λ w. b ++ d ≡ take k w.unread)) (sym n) (joined old b d p.1 rest)) in
    (moved, all)

-- the peer has ended: what was taken is all that there was
pub takes_all : (old mid : Option Wire) (b : List ℕ) → TakesBytes old mid b → IfSome mid (λ w. w.unread ≡ []) → IfSome old (λ w. b ≡ w.unread)
takes_all old mid b p q = whole old b p.1 (at_mid (λ m. IfSome m (λ w. w.unread ≡ [])) old mid (length b) p.0 q)
