-- What a granted call does to shelf, nexuses, line and begun message, on a bus in order. Assumes nothing.
use Rattle.std.specs.Prelude.{◌≡◌, ℕ, suc, ◌+◌, Bool, true, false, cond, ◌||◌, List, [], ◌∷◌, ◌++◌, Some, None, Option, ◌==◌}
use Rattle.scsi.specs.declared.greeting.Greeting.{Greeting}
use Rattle.scsi.specs.Greetings.{greeting_of}
use Rattle.scsi.specs.Messages.{Message, message_of}
use Rattle.scsi.specs.Messages.Message.{complete, save, restore, disconnect, abort, reject, no_operation, abort_tag, extended, sdtr, simple_tag, identify, other}
use Rattle.shelf.specs.Model.{Model, is_present, finished}
use Rattle.bus.specs.declared.Shown.{Shown}
use Rattle.bus.specs.Kinds.{kind_of, target_shown}
use Rattle.bus.specs.State.{Name, Nexus, Heard, nothing, named, tag_due, Line, free, retaken, held, Cable, put, change, close, with_line, with_begun, with_shelf, fresh_nexus, moved, ended, saves, restored}
use Rattle.bus.specs.Calls.{Reply, refused, selected, lost, absent, done, took}
use Rattle.bus.specs.Refusals.{name_of}

---- select

-- a fresh nexus is opened, and holds the line
abbrev pub opens : ℕ → Option Greeting → Cable → Cable
opens t None c = c
opens t (Some g) c = record {
  shelf = c.shelf;
  nexuses = put (name_of t g) (Some (fresh_nexus g.leave)) c.nexuses;
  opened = suc c.opened;
  line = held (name_of t g);
  begun = [];
}

-- absent exactly when the shelf lacks the target; else selected, or lost with no nexus opened
abbrev pub Selects : Cable → ℕ → List ℕ → Reply → Cable → Type 0
Selects c t g (refused n) c' = ⊥
Selects c t g selected c' = (is_present c.shelf t ≡ true) × (c' ≡ opens t (greeting_of g) c)
Selects c t g lost c' = (is_present c.shelf t ≡ true) × (c' ≡ c)
Selects c t g absent c' = (is_present c.shelf t ≡ false) × (c' ≡ c)
Selects c t g done c' = ⊥
Selects c t g (took v) c' = ⊥

---- accept

-- the line is being retaken by the target that is shown
abbrev pub retakes : Option ℕ → Cable → Cable
retakes None c = c
retakes (Some t) c = with_line (retaken t nothing) c

abbrev pub accepts : Shown → Cable → Cable
accepts s c = retakes (target_shown s) c

---- command, give: on the nexus that holds the line

abbrev pub on_holder : (Name → Cable → Cable) → Line → Cable → Cable
on_holder f free c = c
on_holder f (retaken t h) c = c
on_holder f (held n) c = f n c

---- take, on a held line

-- COMMAND COMPLETE finishes the command on the shelf with the bytes collected, closes the nexus and frees the line
abbrev pub finishes : Name → Option (List ℕ) → List ℕ → Model → Model
finishes n None out m = m
finishes n (Some d) out m = finished m n.target n.lun d out

abbrev pub completes : Name → Option Nexus → Cable → Cable
completes n None c = c
completes n (Some x) c = close n (with_shelf (finishes n x.command x.collected c.shelf) c)

-- DISCONNECT: the nexus goes back to its saved place, and the line is free
abbrev pub leaves : Name → Cable → Cable
leaves n c = with_line free (with_begun [] (change n restored c))

-- what a whole message from the target does; only the first four do anything
abbrev pub hears : Message → Name → Cable → Cable
hears complete n c = completes n (c.nexuses n) (with_begun [] c)
hears save n c = with_begun [] (change n saves c)
hears restore n c = with_begun [] (change n restored c)
hears disconnect n c = leaves n c
hears abort n c = with_begun [] c
hears reject n c = with_begun [] c
hears no_operation n c = with_begun [] c
hears abort_tag n c = with_begun [] c
hears (extended bs) n c = with_begun [] c
hears (sdtr m x) n c = with_begun [] c
hears (simple_tag t) n c = with_begun [] c
hears (identify l u) n c = with_begun [] c
hears (other b bs) n c = with_begun [] c

-- one byte more of a message: it acts at its last
abbrev pub reads : Option Message → List ℕ → Name → Cable → Cable
reads None bs n c = with_begun bs c
reads (Some m) bs n c = hears m n c

-- a byte taken, by the kind that carried it: data moves the place on, a status is kept, a message is read
abbrev pub takes : ℕ → ℕ → Name → Cable → Cable
takes kind v n c =
    cond (kind == 1) (change n moved c)
    (cond (kind == 3) (change n (ended v) c)
    (reads (message_of (c.begun ++ v ∷ [])) (c.begun ++ v ∷ []) n c))

---- take, while a target retakes the line

-- after 80h + LUN an untagged nexus holds the line; a tagged one has 20h and its tag to come
abbrev pub comes_back : ℕ → ℕ → Option ℕ → Line
comes_back t l None = held (record { target = t; lun = l; tag = None })
comes_back t l (Some g) = retaken t (named l)

-- a byte of the greeting of one away nexus of the target: 80h + LUN and, if it is tagged, 20h and its tag
abbrev pub Greets : Cable → ℕ → Heard → ℕ → Cable → Type 0
Greets c t nothing v c' = (l : ℕ) × (g : Option ℕ) × (x : Nexus) × (c.nexuses (record { target = t; lun = l; tag = g }) ≡ Some x)
    × (v ≡ 128 + l) × (c' ≡ with_line (comes_back t l g) c)
Greets c t (named l) v c' = (v ≡ 32) × (c' ≡ with_line (retaken t (tag_due l)) c)
Greets c t (tag_due l) v c' = (x : Nexus) × (c.nexuses (record { target = t; lun = l; tag = Some v }) ≡ Some x)
    × (c' ≡ with_line (held (record { target = t; lun = l; tag = Some v })) c)

abbrev pub Takes : Line → Shown → ℕ → Cable → Cable → Type 0
Takes free s v c c' = c' ≡ c
Takes (retaken t h) s v c c' = Greets c t h v c'
Takes (held n) s v c c' = c' ≡ takes (kind_of s) v n c

---- speak

-- just ABORT or just ABORT TAG
abbrev pub aborts : List ℕ → Bool
aborts [] = false
aborts (m ∷ []) = m == 6 || m == 13
aborts (m ∷ x ∷ ms) = false

-- the holding nexus is closed unfinished, and the line is free
abbrev pub ends_line : Line → Cable → Cable
ends_line free c = c
ends_line (retaken t h) c = with_line free (with_begun [] c)
ends_line (held n) c = close n c

-- messages but those two change no nexus
abbrev pub speaks : List ℕ → Cable → Cable
speaks m c = cond (aborts m) (ends_line c.line c) c
