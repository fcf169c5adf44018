-- Which row of the step table the code is in. Assumes nothing.
use Rattle.std.proofs.Common.{◌≡◌, ℕ, ◌+◌, ◌-◌, ◌<◌, ◌≤◌, Bool, true, false, cond, ltb, leb, List, [], ◌∷◌, ◌++◌, Some, None, Option, IsNone, Ok, Err, Result, sym, refl, ap, ◌∙◌}
use Rattle.bus.specs.declared.Shown.{Shown}
use Rattle.bus.specs.declared.Shown.TheVariants.{DataOut, DataIn, Command, Status, Reserved4, Reserved5, MessageOut, MessageIn, Free, Reselect, Pause}
use Rattle.scsi.specs.declared.greeting.Greeting.{Greeting}
use Rattle.scsi.specs.Greetings.{greeting_bytes}
use Rattle.bus.specs.Calls.{select, take, give}
use Rattle.shelf.specs.declared.Way.TheVariants.{In, Out}
use Rattle.slots.specs.declared.answer.Answer.TheVariants.{Moved}
use Rattle.slots.specs.declared.slot.Outcome.{Outcome}
use Rattle.slots.specs.declared.slot.Outcome.TheVariants.{Overrun, WrongWay}
use Rattle.slots.specs.declared.slot.State.TheVariants.{Away}
use Rattle.slots.specs.declared.line.Heard.{Heard}
use Rattle.slots.specs.declared.line.Heard.TheVariants.{Complete, Save, Restore, Disconnect, Reject, Other}
use Rattle.slots.specs.declared.line.Line.{Line}
use Rattle.slots.specs.declared.line.Line.TheVariants.{Idle, Greeted, Named, TagDue, Held}
use Rattle.slots.specs.declared.slot.Slot.{Slot}
use Rattle.slots.specs.declared.slot.Slots.{Slots}
use Rattle.table.specs.Engine.{Engine, Entry, Line as TableLine, idle, held, set_line, in_use, is_away, is_in, is_out, may_leave, numbered, tag_for, seek}
use Rattle.table.specs.Script.{Script, ask, return, read, write}
use Rattle.table.specs.Table.{violation, abort_by, advance_by, data_in_by, data_out_by, message_row, message_by, by_heard, held_by, on_held, greeting_for, away_by, untagged_at, tagged_at, on_lun, greeted_byte, named_byte, tag_byte, row}
use Rattle.table.specs.View.{view, slot_at, entry_of, line_of}
use Rattle.table.proofs.Basics.{numbered_is}
use Rattle.table.proofs.States.{away_is}
use Rattle.table.proofs.Views.{entry_here}
use Rattle.std.proofs.lemmas.Bool.{and_parts, and_from, le-leb, lt-ltb}
use Rattle.engine.specs.Fields.{away_with, place_for}
use Rattle.engine.specs.declared.state.Engine.{Engine as Kept}
use Rattle.engine.specs.declared.held.Held.{Held as Holder}
use Rattle.engine.proofs.Whole.{sound_of, holder_numbered}

-- neither a message nor PAUSE
pub unlisted : (e : Engine) (f : ℕ → Script) (s : Shown) → ((v : ℕ) → s ≡ MessageIn v → ⊥) → (s ≡ Pause → ⊥) → violation e s ≡ message_row e f s
unlisted e f DataOut h p = refl
unlisted e f (DataIn v) h p = refl
unlisted e f Command h p = refl
unlisted e f (Status v) h p = refl
unlisted e f Reserved4 h p = refl
unlisted e f Reserved5 h p = refl
unlisted e f MessageOut h p = refl
unlisted e f (MessageIn v) h p = absurd (h v refl)
unlisted e f Free h p = refl
unlisted e f (Reselect t) h p = refl
unlisted e f Pause h p = absurd (p refl)

-- what is never listed while a slot holds the line
pub unlisted_shown : (e : Engine) (k : ℕ) (x : Entry) (s : Shown) → (s ≡ DataOut → ⊥) → ((v : ℕ) → s ≡ DataIn v → ⊥) → (s ≡ Command → ⊥) → ((v : ℕ) → s ≡ Status v → ⊥)
    → (s ≡ MessageOut → ⊥) → ((v : ℕ) → s ≡ MessageIn v → ⊥) → (s ≡ Free → ⊥) → (s ≡ Pause → ⊥) → violation e s ≡ held_by e k x s
unlisted_shown e k x DataOut a b c d f g h p = absurd (a refl)
unlisted_shown e k x (DataIn v) a b c d f g h p = absurd (b v refl)
unlisted_shown e k x Command a b c d f g h p = absurd (c refl)
unlisted_shown e k x (Status v) a b c d f g h p = absurd (d v refl)
unlisted_shown e k x Reserved4 a b c d f g h p = refl
unlisted_shown e k x Reserved5 a b c d f g h p = refl
unlisted_shown e k x MessageOut a b c d f g h p = absurd (f refl)
unlisted_shown e k x (MessageIn v) a b c d f g h p = absurd (g v refl)
unlisted_shown e k x Free a b c d f g h p = absurd (h refl)
unlisted_shown e k x (Reselect t) a b c d f g h p = refl
unlisted_shown e k x Pause a b c d f g h p = absurd (p refl)

-- inside a message
pub inside_message : (e : Engine) (k : ℕ) (x : Entry) (bs : List ℕ) (s : Shown) → (bs ≡ [] → ⊥) → message_row e (λ v. message_by e k x (bs ++ v ∷ [])) s ≡ on_held e k x bs s
inside_message e k x [] s n = absurd (n refl)
inside_message e k x (b ∷ bs) s n = refl

-- what a message comes to says nothing of the line, and of its bytes only while it goes on
pub by_heard_same : (e : Engine) (l : TableLine) (k : ℕ) (x : Entry) (bs bs' : List ℕ) (h : Option Heard) (o : Option ℕ) → (IsNone h → bs ≡ bs')
    → by_heard (set_line l e) k x bs h o ≡ by_heard e k x bs' h o
by_heard_same e l k x bs bs' None o r = ap (λ (bs : List ℕ). by_heard e k x bs None o) (r refl)
by_heard_same e l k x bs bs' (Some Save) None r = refl
by_heard_same e l k x bs bs' (Some Restore) None r = refl
by_heard_same e l k x bs bs' (Some Disconnect) None r = refl
by_heard_same e l k x bs bs' (Some Reject) None r = refl
by_heard_same e l k x bs bs' (Some Complete) None r = refl
by_heard_same e l k x bs bs' (Some Other) None r = refl
by_heard_same e l k x bs bs' (Some Complete) (Some t) r = refl
by_heard_same e l k x bs bs' (Some Save) (Some t) r = refl
by_heard_same e l k x bs bs' (Some Restore) (Some t) r = refl
by_heard_same e l k x bs bs' (Some Disconnect) (Some t) r = refl
by_heard_same e l k x bs bs' (Some Reject) (Some t) r = refl
by_heard_same e l k x bs bs' (Some Other) (Some t) r = refl

-- the call that selects slot k, which is x
pub selects : (s : Slots) (k : ℕ) (x : Slot) → numbered k ≡ true → x ≡ slot_at s.slots k → (g : Greeting) (bs : List ℕ) → bs ≡ greeting_bytes g.leave g.lun g.tag
    → g.lun ≡ x.command.unit.lun → g.leave ≡ may_leave x.command.manner → g.tag ≡ tag_for k x.command.manner
    → select x.command.unit.target bs ≡ select ((view s).slots k).command.target (greeting_for k ((view s).slots k).command)
selects s k x w e g bs q l m t =
    let r = numbered_is k w in
    ap (select x.command.unit.target) (q ∙ (λ i. greeting_bytes (m i) (l i) (t i)))
    ∙ ap (λ (y : Entry). select y.command.target (greeting_for k y.command)) (ap entry_of e ∙ sym (entry_here s.slots k r.0 r.1))

-- a slot that was found away
pub found_away : (e : Kept) (b : Bool) (t l k : ℕ) → away_with b (view e.state) t l k ≡ true → (slot_at e.state.slots k).state ≡ Away
found_away e b t l k h =
    let w = away_is ((view e.state).slots k).state (is_away_with b h) in
    let r = numbered_is k ((sound_of e).range k (ap in_use w)) in
    sym (ap (λ (x : Entry). x.state) (entry_here e.state.slots k r.0 r.1)) ∙ w
  where
    is_away_with : (b : Bool) → away_with b (view e.state) t l k ≡ true → is_away ((view e.state).slots k).state ≡ true
    is_away_with true h = (and_parts (is_away ((view e.state).slots k).state) _ (and_parts (away_by t l ((view e.state).slots k)) _ h).0).0
    is_away_with false h = (and_parts (is_away ((view e.state).slots k).state) _ (and_parts (away_by t l ((view e.state).slots k)) _ h).0).0

-- 80h to 87h is listed
pub lun_listed : (e : Engine) (t v : ℕ) → 0x80 ≤ v → v < 0x88
    → ask take (λ _. on_lun e t (v - 0x80) v (seek 16 (untagged_at e t (v - 0x80))) (seek 16 (tagged_at e t (v - 0x80)))) ≡ greeted_byte e t v
lun_listed e t v a b = sym (ap (λ (u : Bool). cond u
    (ask take (λ _. on_lun e t (v - 0x80) v (seek 16 (untagged_at e t (v - 0x80))) (seek 16 (tagged_at e t (v - 0x80)))))
    (violation e (MessageIn v))) (and_from (leb 0x80 v) (ltb v 0x88) (le-leb 0x80 v a) (lt-ltb v 0x88 b)))

-- a byte of a message, while slot k holds the line
pub message_held : (e : Kept) (h : Holder) (k : ℕ) (v : ℕ) → h.k ≡ k → slot_at e.state.slots k ≡ h.slot
    → message_by (view e.state) h.k (entry_of h.slot) (e.state.begun.items ++ v ∷ []) ≡ row (view e.state) (line_of (Held k) e.state.begun.items) (MessageIn v)
message_held e h k v p q =
    let bs = e.state.begun.items in
    let m : numbered k ≡ true = ap numbered (sym p) ∙ h.numbered in
    let r = numbered_is k m in
    (λ i. message_by (view e.state) (p i) (entry_of (sym q i)) (bs ++ v ∷ []))
    ∙ ap (λ (x : Entry). message_by (view e.state) k x (bs ++ v ∷ [])) (sym (entry_here e.state.slots k r.0 r.1))
    ∙ on_byte ((view e.state).slots k) bs
    ∙ ap (λ (t : Bool). row (view e.state) (cond t (held k bs) idle) (MessageIn v)) (sym m)
  where
    on_byte : (x : Entry) (bs : List ℕ) → message_by (view e.state) k x (bs ++ v ∷ []) ≡ on_held (view e.state) k x bs (MessageIn v)
    on_byte x [] = refl
    on_byte x (b ∷ bs) = refl

-- what is not listed while a target retakes the line
pub unlisted_row : (e : Engine) (l : Line) (bs : List ℕ) (s : Shown) → (l ≡ Idle → ⊥) → ((k : ℕ) → l ≡ Held k → ⊥) → ((v : ℕ) → s ≡ MessageIn v → ⊥) → (s ≡ Pause → ⊥)
    → violation e s ≡ row e (line_of l bs) s
unlisted_row e Idle bs s n m h p = absurd (n refl)
unlisted_row e (Greeted t) bs s n m h p = unlisted e (greeted_byte e t) s h p
unlisted_row e (Named u) bs s n m h p = unlisted e (named_byte e u.target u.lun) s h p
unlisted_row e (TagDue u) bs s n m h p = unlisted e (tag_byte e u.target u.lun) s h p
unlisted_row e (Held k) bs s n m h p = absurd (m k refl)

-- what is not listed inside a message
pub unlisted_held : (e : Kept) (k : ℕ) (s : Shown) → e.state.line ≡ Held k → (e.state.begun.items ≡ [] → ⊥) → ((v : ℕ) → s ≡ MessageIn v → ⊥) → (s ≡ Pause → ⊥)
    → violation (view e.state) s ≡ row (view e.state) (line_of (Held k) e.state.begun.items) s
unlisted_held e k s q n h p =
    let bs = e.state.begun.items in
    unlisted (view e.state) (λ v. message_by (view e.state) k ((view e.state).slots k) (bs ++ v ∷ [])) s h p
    ∙ inside_message (view e.state) k ((view e.state).slots k) bs s n
    ∙ ap (λ (t : Bool). row (view e.state) (cond t (held k bs) idle) s) (sym (holder_numbered e k q))

-- the row of the line as it is kept
pub row_of : (s : Slots) (l : Line) (z z' : Shown) → z ≡ z' → s.line ≡ l → row (view s) (line_of l s.begun.items) z ≡ row (view s) (view s).line z'
row_of s l z z' p q = ap (row (view s) (line_of l s.begun.items)) p ∙ ap (λ (k : Line). row (view s) (line_of k s.begun.items) z') (sym q)

-- a row by the place of its byte
abbrev pub by_place : Result ℕ Outcome → (ℕ → Script) → (Outcome → Script) → Script
by_place (Ok p) f g = f p
by_place (Err o) f g = g o

placed : (b c : Bool) (p : ℕ) (f : ℕ → Script) (g : Outcome → Script)
    → by_place (cond b (cond c (Ok p) (Err Overrun)) (Err WrongWay)) f g ≡ cond b (cond c (f p) (g Overrun)) (g WrongWay)
placed true true p f g = refl
placed true false p f g = refl
placed false c p f g = refl

-- DATA IN
pub placed_in : (e : Engine) (k : ℕ) (x : Entry) (v : ℕ) (r : Result ℕ Outcome) → r ≡ place_for In x
    → by_place r (λ p. ask take (λ _. write p v (return (Moved k) (advance_by e k x)))) (abort_by e k x (DataIn v)) ≡ data_in_by e k x v
placed_in e k x v r q =
    let f = λ (p : ℕ). ask take (λ _. write p v (return (Moved k) (advance_by e k x))) in
    ap (λ (r : Result ℕ Outcome). by_place r f (abort_by e k x (DataIn v))) q
    ∙ placed (is_in x.command.direction) (ltb x.current x.command.length) (x.command.base + x.current) f (abort_by e k x (DataIn v))

-- DATA OUT
pub placed_out : (e : Engine) (k : ℕ) (x : Entry) (r : Result ℕ Outcome) → r ≡ place_for Out x
    → by_place r (λ p. read p (λ v. ask (give v) (λ _. return (Moved k) (advance_by e k x)))) (abort_by e k x DataOut) ≡ data_out_by e k x
placed_out e k x r q =
    let f = λ (p : ℕ). read p (λ v. ask (give v) (λ _. return (Moved k) (advance_by e k x))) in
    ap (λ (r : Result ℕ Outcome). by_place r f (abort_by e k x DataOut)) q
    ∙ placed (is_out x.command.direction) (ltb x.current x.command.length) (x.command.base + x.current) f (abort_by e k x DataOut)
