-- The box as demand 3 sees it: its plain machine, and its calls. Each call is made of the definitions that the entry point's contract cites.
-- An event is a clause in each of four lists: `Event`, `happens`, `row_left` and `on`.
use Rattle.numbers.specs.Numbers as numbers
use Rattle.std.specs.Prelude.{Bool, cond, ◌||◌, List, [], ℕ, eqb, length, take}
use Rattle.std.proofs.Math.Option.{Option, none, some}
use Rattle.connections.specs.Lines.{is_open, connected, closed}
use Rattle.plain.specs.Events.{too_short, leveled, time_passed, collected}
use Rattle.filling.specs.Filling.{place_filled, place_emptied, row_emptied}
use Rattle.answers.specs.Calls.{Did}
use Rattle.serving.specs.Serving.{served_message}
use Rattle.rows.specs.Places.{Board}
use Rattle.ring.specs.declared.Pulse.{Pulse}
use Rattle.pulses.specs.Pulses.{short_row}
use Rattle.ring.specs.Ring.{row_after}
use Rattle.halves.specs.Halves.{Halves, dropped}
use Rattle.pieces.specs.declared.Done.{Done}
use Rattle.powerup.specs.declared.Settings.{Settings}
use Rattle.powerup.specs.PowerUp.{powered_up}
use Rattle.pieces.specs.Effects.{Effect, done_of, still}
use Rattle.pieces.specs.Pieces.{bytes_call, halves_after, rooms_after}
use Rattle.demand.specs.Plain.{Serving}
use Rattle.demand.specs.Demand.{Said, waits, refused, did, Call, bytes, other, Answer, answer, Machine, Trace, View, final, trace, begins}

-- 01, Events, 1 to 5; an opening says the rank and, by 02, M-103, 2, the strictness; a collection lends a reply buffer of so many bytes
-- 02, M-102, 11: a place of the second deck is filled, or emptied
pub data Event : Type 0 where
  level : ℕ → ℕ → Event
  pass : ℕ → Event
  connect : ℕ → ℕ → ℕ → Event
  close : ℕ → Event
  collect : ℕ → ℕ → Event
  fill : ℕ → Event
  empty : ℕ → Event

-- an answer number, its place (02, M-105, 2), and the bytes of the reply
pub record Reply : Type 0 where
  pub number : ℕ
  pub place : ℕ
  pub sent : List ℕ

abbrev pub reply : ℕ → ℕ → List ℕ → Reply
reply n place bs = record { number = n; place = place; sent = bs }

abbrev pub reply_of : Did → Reply
reply_of d = reply d.answer d.place d.reply

-- 01, Answer numbers, 4, and 02, M-100, 7: a refusal, which has no reply; 02, M-105, 2: and, of a call, no place
abbrev pub refusing : ℕ → Reply
refusing n = reply n 0 []

-- 02, M-100, 5 and 6: all that the plain machine holds is the lent board and, beside it, the lent row of waiting pulses
pub record Tables : Type 0 where
  pub board : Board
  pub row : List Pulse

abbrev pub tables : Board → List Pulse → Tables
tables b row = record { board = b; row = row }

-- 01, Answer numbers, lines 3 and 4: what refuses a piece, room the reply buffer's length; 02, M-100, 5: 4 also for a row under 31
abbrev pub refusal_of : Tables → ℕ → ℕ → Option Reply
refusal_of t c room =
    cond (is_open c t.board) (cond (too_short room || short_row (length t.row)) (some (refusing numbers.short_buffer)) none)
    (some (refusing numbers.no_connection))

-- what each event does to the plain machine; 02, M-100, 6: the end of a pulse belongs to the time event in which it falls
abbrev pub happens : Event → Tables → Did
happens (level k v) t = leveled k v t.board
happens (pass d) t = time_passed d t.row t.board
happens (connect c rank strict) t = connected c rank strict t.board
happens (close c) t = closed c t.board
happens (collect c room) t = collected c room t.board
happens (fill place) t = place_filled (length t.row) place t.board
happens (empty place) t = place_emptied (length t.row) place t.board

-- the row after it; 02, M-102, 8: only an emptying changes it
abbrev pub row_left : Event → Tables → List Pulse
row_left (level k v) t = t.row
row_left (pass d) t = t.row
row_left (connect c rank strict) t = t.row
row_left (close c) t = t.row
row_left (collect c room) t = t.row
row_left (fill place) t = t.row
row_left (empty place) t = row_emptied place t.board t.row

-- the connection that an event is on, if it is on one: where it succeeds it drops what that one has half read, or keeps it
pub data On : Type 0 where
  nobody : On
  dropping : ℕ → On
  keeping : ℕ → On

-- 01, Events, 3 to 5: an opening and a closing drop what is half read; a collection is for its connection and drops nothing
abbrev pub on : Event → On
on (level k v) = nobody
on (pass d) = nobody
on (connect c rank strict) = dropping c
on (close c) = dropping c
on (collect c room) = keeping c
on (fill place) = nobody
on (empty place) = nobody

-- the connection itself
abbrev pub whose : On → Option ℕ
whose nobody = none
whose (dropping c) = some c
whose (keeping c) = some c

-- 01, Events, 5, and Answer numbers, 5: the connection that the event's reply is for; an opening and a closing have no reply
abbrev pub reply_for : On → Option ℕ
reply_for nobody = none
reply_for (dropping c) = none
reply_for (keeping c) = some c

-- what a message or an event leaves of the tables: a message may add a record to the row
abbrev pub tables_after : Tables → Did → Tables
tables_after t d = tables d.board (row_after t.board d.board t.row)

abbrev pub tables_happened : Tables → Event → Tables
tables_happened t e = tables (happens e t).board (row_left e t)

-- THE PLAIN MACHINE of the box: its tables are the lent board and row, all of them, and it serves whole messages by demand 2
abbrev pub served : Serving
served =
    record {
      Tables = Tables;
      Event = Event;
      Lent = ℕ;
      Reply = Reply;
      limit = 1024;
      is_open = λ t c. is_open c t.board;
      refusal = refusal_of;
      serve = λ t c g. (tables_after t (served_message c g t.board), reply_of (served_message c g t.board));
      happen = λ t e. (tables_happened t e, reply_of (happens e t));
      reply_to = λ e. reply_for (on e);
    }

-- THE BOX, as its host has it: all that the host lends, the same in every call and altered by nobody else; 02, M-100, 6: so the row of
-- pulses too, which the host is presumed not to alter
pub record Held : Type 0 where
  pub board : Board
  pub halves : Halves
  pub rooms : List ℕ
  pub row : List Pulse

abbrev pub held : Board → Halves → List ℕ → List Pulse → Held
held b hs rs row = record { board = b; halves = hs; rooms = rs; row = row }

abbrev pub tables_of : Held → Tables
tables_of x = tables x.board x.row

-- 01, Answer numbers, lines 3 and 4: the numbers that refuse a piece before any byte
abbrev pub before_bytes : ℕ → Bool
before_bytes n = eqb n numbers.no_connection || eqb n numbers.short_buffer

-- 01, Answer numbers, line 0: what the answer to a piece says: with 0 nothing ended; 3 and 4 refuse the call; every other number answers a message
abbrev pub saying : Reply → Said Reply
saying r = cond (eqb r.number numbers.waiting) waits (cond (before_bytes r.number) (refused r) (did r))

-- what a call comes to, by the definition that its entry point's contract cites; 01, Answer numbers, 6: an event takes no bytes
abbrev pub effect_of : Held → Call served → Effect
effect_of x (bytes c room piece) = bytes_call c piece room (length x.row) x.board x.halves x.rooms
effect_of x (other e) = still (happens e (tables_of x))

-- the half-read messages after an event with this answer
abbrev pub halves_left : On → ℕ → Halves → Halves
halves_left nobody answer hs = hs
halves_left (dropping c) answer hs = dropped c answer hs
halves_left (keeping c) answer hs = hs

-- the half-read messages after a call
abbrev pub halves_of : Held → Call served → Halves
halves_of x (bytes c room piece) = halves_after c piece room (length x.row) x.board x.halves x.rooms
halves_of x (other e) = halves_left (on e) (happens e (tables_of x)).answer x.halves

-- the rooms after it: only a piece touches them
abbrev pub rooms_of : Held → Call served → List ℕ
rooms_of x (bytes c room piece) = rooms_after c piece room (length x.row) x.board x.halves x.rooms
rooms_of x (other e) = x.rooms

-- the row of pulses after it: a message adds to it, an emptying takes relays from its masks; time reads it
abbrev pub row_of : Held → Call served → List Pulse
row_of x (bytes c room piece) = row_after x.board (effect_of x (bytes c room piece)).did.board x.row
row_of x (other e) = row_left e (tables_of x)

-- every event is answered, refused or not
abbrev pub said_of : Call served → Reply → Said Reply
said_of (bytes c room piece) r = saying r
said_of (other e) r = did r

abbrev pub box_call : Held → Call served → Held × Answer served
box_call x k =
    let e : Effect = effect_of x k in
    (held e.did.board (halves_of x k) (rooms_of x k) (row_of x k), answer served (done_of e).taken (said_of k (reply_of e.did)))

abbrev pub box : Machine served
box = record { State = Held; tables = tables_of; call = box_call }

-- the box at power-up, with the half-read messages, rooms and row that the host lends, whatever stands in them
abbrev pub at_power_up : Settings → Halves → List ℕ → List Pulse → Held
at_power_up s hs rooms row = held (powered_up s) hs rooms row

-- a run of it: where it ends, each call with its answer, and the onlooker's view when it begins
abbrev pub ends : Settings → Halves → List ℕ → List Pulse → List (Call served) → Held
ends s hs rooms row calls = final served box (at_power_up s hs rooms row) calls

abbrev pub run : Settings → Halves → List ℕ → List Pulse → List (Call served) → Trace served
run s hs rooms row calls = trace served box (at_power_up s hs rooms row) calls

abbrev pub onlooker : Settings → Halves → List ℕ → List Pulse → View served
onlooker s hs rooms row = begins served box (at_power_up s hs rooms row)

-- what the host reads of a call: the number, the place, and as many bytes of the reply buffer as the reply has; a call without a buffer has no reply
abbrev pub read_of : Done → List ℕ → Reply
read_of r buffer = reply r.answer r.place (take r.len buffer)

-- so an entry point's answer, as a step of the box: what was lent, after it, the bytes taken, and what it says
abbrev pub step_of : Board → Halves → List ℕ → List Pulse → Done → Said Reply → Held × Answer served
step_of b hs rooms row r said = (held b hs rooms row, answer served r.taken said)
