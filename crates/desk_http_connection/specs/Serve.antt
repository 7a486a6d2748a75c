-- What serving one connection comes to.
use Rattle.std.specs.Prelude.{◌≡◌, ◌⊎◌, ℕ, List, take, Option, IfSome, option_map, Result, Ok, Err}
use Rattle.outside.specs.Faults.{Rose}
use Rattle.outside.specs.Port.{Wire, taken, read_off, replied}
use Rattle.desk_core_commands.specs.declared.command.Command.{Command}
use Rattle.desk_core_commands.specs.declared.command.Answer.{Answer}
use Rattle.desk_core_commands.specs.declared.fault.DeskFault.{DeskFault}
use Rattle.desk_core_commands.specs.declared.fault.DeskFault.TheVariants as f
use Rattle.desk_http_request.specs.declared.wanted.Wanted.TheVariants as wanted
use Rattle.desk_http_request.specs.Reading.{OnlyRead}
use Rattle.desk_http_reply.specs.Reply.{reply_of, file_reply, refusal_reply, keeper_reply, starved_reply}
use Rattle.desk_http_reply.specs.declared.replies.Reply.{Reply}
use Rattle.desk_http_connection.specs.Request.{Permits}
use Rattle.desk_http_connection.specs.declared.request.Request.{Request}
use Rattle.desk_http_connection.specs.declared.request.Request.TheVariants.{Refused, Asked, Partial}
use Rattle.desk_http_connection.specs.declared.request.Take.{Take}
use Rattle.desk_http_connection.specs.declared.request.Take.TheVariants.{Whole, Broken as BrokenRead, NoMemory}
use Rattle.desk_http_connection.specs.declared.serve.Incoming.{Incoming}
use Rattle.desk_http_connection.specs.declared.serve.Incoming.TheVariants.{Act, Done}
use Rattle.desk_http_connection.specs.declared.serve.Served.{Served}
use Rattle.desk_http_connection.specs.declared.serve.Served.TheVariants.{Replied, Cut, Broken}
use Rattle.desk_http_connection.specs.declared.serve.ServeFault.{ServeFault}
use Rattle.desk_http_connection.specs.declared.serve.ServeFault.TheVariants.{Next, Memory}

-- some bytes were read, and then these were written
abbrev pub ReadAndWrote : Option Wire → Option Wire → List ℕ → Type 0
ReadAndWrote old new bytes = (n : ℕ) × (new ≡ option_map (replied bytes) (option_map (read_off n) old))

-- the unread bytes may be taken for this request
abbrev pub Permitted : Option Wire → Request → Type 0
Permitted wire request = IfSome wire (λ w. Permits w.unread request)

-- what reading a request comes to
abbrev pub Takes : Option Wire → Option Wire → ℕ → ℕ → Take → Type 0
Takes old new before now (Whole request) = OnlyRead old new × Permitted old request × (now ≡ before)
Takes old new before now BrokenRead = OnlyRead old new × Rose before now
Takes old new before now NoMemory = OnlyRead old new × (now ≡ before)

-- what writing a reply comes to
abbrev pub Sends : Option Wire → Option Wire → ℕ → ℕ → ℕ → List ℕ → Served → Type 0
Sends old new before now status bytes (Replied s) = (s ≡ status) × (new ≡ option_map (replied bytes) old) × (now ≡ before)
Sends old new before now status bytes Cut = ⊥
Sends old new before now status bytes Broken = Rose before now × ((m : ℕ) × (new ≡ option_map (replied (take m bytes)) old))

-- the reply where memory ran out takes the place of any other
abbrev pub reply_or_starved : {E : Type 0} → Result Reply E → Reply
reply_or_starved (Ok reply) = reply
reply_or_starved (Err e) = starved_reply

-- the reply to what a command came to; or memory ran out for it
abbrev pub RepliesTo : Result Answer DeskFault → Reply → Type 0
RepliesTo (Ok answer) reply = (reply ≡ reply_of answer) ⊎ (reply ≡ starved_reply)
RepliesTo (Err f.Keeper) reply = (reply ≡ keeper_reply) ⊎ (reply ≡ starved_reply)
RepliesTo (Err f.Memory) reply = reply ≡ starved_reply

-- what writing that reply comes to
abbrev pub SendsReplyTo : Result Answer DeskFault → Option Wire → Option Wire → ℕ → ℕ → Served → Type 0
SendsReplyTo outcome old new before now served = (reply : Reply) × RepliesTo outcome reply × Sends old new before now reply.status reply.bytes served

-- over desks of any form, where commands that come to this lead from one to another
module _ {D : Type 0} (Acts : Command → Result Answer DeskFault → D → D → Type 0) where
  -- what is done with a request, and the reply to it
  abbrev pub Does : Request → D → D → Reply → Type 0
  Does (Refused refusal) old new reply = (new ≡ old) × ((reply ≡ refusal_reply refusal) ⊎ (reply ≡ starved_reply))
  Does (Asked (wanted.File file)) old new reply = (new ≡ old) × ((reply ≡ file_reply file) ⊎ (reply ≡ starved_reply))
  Does (Asked (wanted.Act command)) old new reply = (outcome : Result Answer DeskFault) × Acts command outcome old new × RepliesTo outcome reply
  Does Partial old new reply = ⊥

  -- the reply to a request that the unread bytes may be taken for; or memory ran out before
  abbrev pub Answers : Option Wire → D → D → Reply → Type 0
  Answers wire old new reply = ((request : Request) × Permitted wire request × Does request old new reply)
      ⊎ ((new ≡ old) × (reply ≡ starved_reply))

  -- what serving the present connection comes to
  abbrev pub ServesPresent : Option Wire → Option Wire → ℕ → ℕ → D → D → Served → Type 0
  ServesPresent w0 w1 before now old new (Replied status) =
      (reply : Reply) × Answers w0 old new reply × (status ≡ reply.status) × ReadAndWrote w0 w1 reply.bytes × (now ≡ before)
  ServesPresent w0 w1 before now old new Cut = Permitted w0 Partial × (new ≡ old) × OnlyRead w0 w1 × (now ≡ before)
  ServesPresent w0 w1 before now old new Broken = Rose before now
      × (((new ≡ old) × OnlyRead w0 w1)
      ⊎ ((reply : Reply) × Answers w0 old new reply × ((m : ℕ) × ReadAndWrote w0 w1 (take m reply.bytes))))

  -- what serving one connection comes to
  abbrev pub Serves : Option Wire → Option Wire → ℕ → ℕ → D → D → Result Served ServeFault → Type 0
  Serves w0 w1 before now old new (Ok served) = ServesPresent (option_map taken w0) w1 before now old new served
  Serves w0 w1 before now old new (Err Next) = (new ≡ old) × (w1 ≡ w0) × (now ≡ before)
  Serves w0 w1 before now old new (Err Memory) = (new ≡ old) × OnlyRead (option_map taken w0) w1

-- the present connection is served, and no command is carried out
abbrev pub ServesIdle : Option Wire → Option Wire → ℕ → ℕ → Served → Type 0
ServesIdle w0 w1 before now served = ServesPresent {D = Unit {0}} (λ command outcome old new. ⊥) w0 w1 before now tt tt served

-- what the present connection comes to: its request asks for a command, or it is served without one
abbrev pub ReceivesPresent : Option Wire → Option Wire → ℕ → ℕ → Incoming → Type 0
ReceivesPresent w0 w1 before now (Act command) = Takes w0 w1 before now (Whole (Asked (wanted.Act command)))
ReceivesPresent w0 w1 before now (Done served) = ServesIdle w0 w1 before now served

-- what taking one connection comes to
abbrev pub Receives : Option Wire → Option Wire → ℕ → ℕ → Result Incoming ServeFault → Type 0
Receives w0 w1 before now (Ok incoming) = ReceivesPresent (option_map taken w0) w1 before now incoming
Receives w0 w1 before now (Err Next) = (w1 ≡ w0) × (now ≡ before)
Receives w0 w1 before now (Err Memory) = OnlyRead (option_map taken w0) w1
