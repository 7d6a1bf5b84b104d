-- A row of eight words and the record that it stands for. Any words at all stand for one.
use Rattle.std.specs.Prelude.{Bool, true, cond, not, List, [], ◌∷◌, ℕ, eqb, get_or}
use Rattle.records.specs.declared.Input.{Input}
use Rattle.records.specs.declared.Relay.{Relay}
use Rattle.records.specs.declared.Line.{Line}
use Rattle.records.specs.declared.Queue.{Queue}

-- word j of a row; one that is not there is 0
abbrev pub word : ℕ → List ℕ → ℕ
word j row = get_or row j 0

-- 0 is no, every other word yes
abbrev pub is_on : ℕ → Bool
is_on w = not (eqb w 0)

-- written, yes is 1 and no is 0
abbrev pub flagged : Bool → ℕ
flagged b = cond b 1 0

-- 01, Events, 2: the words that the rows of inputs and relays have in common: on or closed, and the usage that grows then
abbrev pub state_word : ℕ
state_word = 0

abbrev pub usage_word : ℕ
usage_word = 5

-- 01, What the box holds, 1: an input in its row, and the words of an input; the last word is kept free
abbrev pub input_in : List ℕ → Input
input_in w =
    record {
      level = is_on (word state_word w);
      alarm = is_on (word 1 w);
      count = word 2 w;
      setpoint_one = word 3 w;
      setpoint_two = word 4 w;
      usage = word usage_word w;
      usage_setpoint = word 6 w;
    }

abbrev pub input_words : Input → List ℕ
input_words i =
    flagged i.level ∷ flagged i.alarm ∷ i.count ∷ i.setpoint_one ∷ i.setpoint_two ∷ i.usage ∷ i.usage_setpoint ∷ 0 ∷ []

-- 01, What the box holds, 2: a relay in its row, and that row with another relay in it; the words that a relay does not have stay
abbrev pub relay_in : List ℕ → Relay
relay_in w = record { closed = is_on (word state_word w); usage = word usage_word w; usage_setpoint = word 6 w }

abbrev pub relay_words : List ℕ → Relay → List ℕ
relay_words w r = flagged r.closed ∷ word 1 w ∷ word 2 w ∷ word 3 w ∷ word 4 w ∷ r.usage ∷ r.usage_setpoint ∷ word 7 w ∷ []

-- 01, What the box holds, 4, and 02, M-102, 4: the words of a connection's row that are its marks: Monitor is due, External Monitor is
abbrev pub due_word : ℕ
due_word = 3

abbrev pub external_word : ℕ
external_word = 5

-- 01, What the box holds, 4, and 02, M-103, 2: a connection in its row, without its half-read message, and its words
abbrev pub line_in : List ℕ → Line
line_in w =
    record {
      is_open = is_on (word 0 w);
      rank = word 1 w;
      monitor = is_on (word 2 w);
      due = is_on (word due_word w);
      strict = word 4 w;
      external = is_on (word external_word w);
    }

abbrev pub line_words : Line → List ℕ
line_words l = flagged l.is_open ∷ l.rank ∷ flagged l.monitor ∷ flagged l.due ∷ l.strict ∷ flagged l.external ∷ 0 ∷ 0 ∷ []

-- a mark, set or left as it is
abbrev pub mark_word : Bool → ℕ → ℕ
mark_word marks was = cond marks (flagged true) was

-- 01, Events, 6, and 02, M-102, 4: a connection's row with one mark set, or the other, or both; no other word changes
abbrev pub due_words : Bool → Bool → List ℕ → List ℕ
due_words due external w =
    word 0 w ∷ word 1 w ∷ word 2 w ∷ mark_word due (word due_word w) ∷ word 4 w ∷ mark_word external (word external_word w) ∷ word 6 w ∷ word 7 w ∷ []

-- 02, M-100, 4: the word of the queue's row that falls with time: the ms left of the running pulse
abbrev pub left_word : ℕ
left_word = 2

-- 02, M-100, 2 and 3: the queue of pulses in its row, without its records, and its words
abbrev pub queue_in : List ℕ → Queue
queue_in w =
    record {
      first = word 0 w;
      standing = word 1 w;
      left = word left_word w;
      remembered = word 3 w;
      mask = word 4 w;
      states = word 5 w;
      duration = word 6 w;
    }

abbrev pub queue_words : Queue → List ℕ
queue_words q = q.first ∷ q.standing ∷ q.left ∷ q.remembered ∷ q.mask ∷ q.states ∷ q.duration ∷ 0 ∷ []

-- what stands for an input, relay or connection that the box does not have: all zero, as no words read
abbrev pub blank_input : Input
blank_input = input_in []

abbrev pub blank_relay : Relay
blank_relay = relay_in []

abbrev pub shut_line : Line
shut_line = line_in []
