-- Replies that were sent, and connections that were served.
use Rattle.std.proofs.Common.{◌≡◌, ℕ, take, Option, refl, ap, subst, ◌∙◌, ⊎_elim, inl, inr}
use Rattle.std.specs.Prelude.{Result}
use Rattle.std.specs.Option.{option_map}
use Rattle.outside.specs.Port.{Wire, replied}
use Rattle.outside.specs.Faults.{Rose}
use Rattle.desk_core_commands.specs.declared.command.Command.{Command}
use Rattle.desk_core_commands.specs.declared.command.Answer.{Answer}
use Rattle.desk_core_commands.specs.declared.fault.DeskFault.{DeskFault}
use Rattle.desk_http_reply.specs.declared.replies.Reply.{Reply}
use Rattle.desk_http_request.specs.declared.wanted.Wanted.TheVariants as wanted
use Rattle.desk_http_request.specs.Reading.{OnlyRead}
use Rattle.desk_http_connection.specs.Serve.{Sends, Answers, Does, Permitted, SendsReplyTo, ServesIdle, ServesPresent}
use Rattle.desk_http_connection.specs.declared.request.Request.{Request}
use Rattle.desk_http_connection.specs.declared.request.Request.TheVariants.{Refused, Asked, Partial}
use Rattle.desk_http_connection.specs.declared.serve.Served.{Served}
use Rattle.desk_http_connection.specs.declared.serve.Served.TheVariants.{Replied, Cut, Broken}

module _ {D : Type 0} (Acts : Command → Result Answer DeskFault → D → D → Type 0) where
  -- after the request was read, the reply to it was sent
  pub serves_sent : (w0 w1 w2 : Option Wire) (f0 f1 f2 : ℕ) (old new : D) (reply : Reply) (served : Served)
      → OnlyRead w0 w1 → f1 ≡ f0 → Answers Acts w0 old new reply
      → Sends w1 w2 f1 f2 reply.status reply.bytes served
      → ServesPresent Acts w0 w2 f0 f2 old new served
  serves_sent w0 w1 w2 f0 f1 f2 old new reply (Replied status) read calm answers sends =
      (reply, answers, sends.0, (read.0, sends.1 ∙ ap (option_map (replied reply.bytes)) read.1), sends.2 ∙ calm)
  serves_sent w0 w1 w2 f0 f1 f2 old new reply Cut read calm answers sends = absurd sends
  serves_sent w0 w1 w2 f0 f1 f2 old new reply Broken read calm answers sends = (
    subst (λ (f : ℕ). Rose f f2) calm sends.0,
    inr (reply, answers, (sends.1.0, (read.0, sends.1.1 ∙ ap (option_map (replied (take sends.1.0 reply.bytes))) read.1))),
  )

  -- after the command was carried out, the reply to what it came to was sent
  pub serves_asked : (w0 w1 w2 : Option Wire) (f0 f1 f2 : ℕ) (old new : D) (command : Command) (outcome : Result Answer DeskFault) (served : Served)
      → OnlyRead w0 w1 → Permitted w0 (Asked (wanted.Act command)) → f1 ≡ f0 → Acts command outcome old new
      → SendsReplyTo outcome w1 w2 f1 f2 served
      → ServesPresent Acts w0 w2 f0 f2 old new served
  serves_asked w0 w1 w2 f0 f1 f2 old new command outcome served read permitted calm acts sends =
      serves_sent w0 w1 w2 f0 f1 f2 old new sends.0 served read calm (inl (Asked (wanted.Act command), permitted, (outcome, acts, sends.1))) sends.2

  -- a connection without a command leaves any desk as it is
  module _ (d : D) where
    does_idly : (request : Request) (reply : Reply) → Does {D = Unit {0}} (λ command outcome old new. ⊥) request tt tt reply → Does Acts request d d reply
    does_idly (Refused refusal) reply h = (refl, h.1)
    does_idly (Asked (wanted.File file)) reply h = (refl, h.1)
    does_idly (Asked (wanted.Act command)) reply h = absurd h.1
    does_idly Partial reply h = absurd h

    answers_idly : (w : Option Wire) (reply : Reply) → Answers {D = Unit {0}} (λ command outcome old new. ⊥) w tt tt reply → Answers Acts w d d reply
    answers_idly w reply h = ⊎_elim (λ a. inl (a.0, a.1, does_idly a.0 reply a.2)) (λ n. inr (refl, n.1)) h

    pub serves_idly : (w0 w1 : Option Wire) (before now : ℕ) (served : Served) → ServesIdle w0 w1 before now served → ServesPresent Acts w0 w1 before now d d served
    serves_idly w0 w1 before now (Replied status) h = (h.0, answers_idly w0 h.0 h.1, h.2, h.3, h.4)
    serves_idly w0 w1 before now Cut h = (h.0, refl, h.2, h.3)
    serves_idly w0 w1 before now Broken h = (h.0, ⊎_elim (λ n. inl (refl, n.1)) (λ a. inr (a.0, answers_idly w0 a.0 a.1, a.2)) h.1)
