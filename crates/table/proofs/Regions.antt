-- A step keeps to its regions on every bus, and leaves a sound engine. Assumes nothing.
use Rattle.std.proofs.Common.{◌≡◌, ℕ, ◌-◌, Bool, true, false, not, ◌&&◌, eqb, ltb, leb, List, [], ◌∷◌, ◌++◌, Some, None, Option, sym, refl, ap, ◌∙◌, subst}
use Rattle.std.proofs.lemmas.Bool.{and_parts, eq-eqb, ne_eqb, ltb-true, cond_both}
use Rattle.scsi.specs.Messages.{message_of}
use Rattle.bus.specs.declared.Shown.{Shown}
use Rattle.bus.specs.declared.Shown.TheVariants.{DataOut, DataIn, Command as CommandOut, Status, Reserved4, Reserved5, MessageOut, MessageIn, Free as FreeLine, Reselect, Pause}
use Rattle.bus.specs.Calls.{Reply, refused, selected, lost, absent, done, took}
use Rattle.slots.specs.declared.slot.Outcome.TheVariants.{Done, Overrun, WrongWay, Dropped}
use Rattle.slots.specs.declared.slot.State.{State}
use Rattle.slots.specs.declared.slot.State.TheVariants.{Waiting, Connected, Away, Finished}
use Rattle.table.specs.Engine.{Entry, Engine, Line, idle, greeted, named, tag_due, held, in_use, is_open, is_away, is_waiting, is_in, is_out, numbered, stands_on, without, seek, first_of, put_slot, set_slot, unlink_slot, set_line, with_state}
use Rattle.table.specs.Script.{Script}
use Rattle.table.specs.Table.{byte_told, row, violation, cleared, eligible, selecting, on_free, on_reselect, idle_row, message_row, connecting, away_at, untagged_at, tagged_at, on_lun, greeted_byte, named_byte, tag_byte, data_in_by, data_out_by, command_by, status_by, heard_of, by_heard, message_by, held_by, on_held}
use Rattle.table.specs.Sound.{Sound}
use Rattle.slots.specs.declared.line.Heard.{Heard}
use Rattle.slots.specs.declared.line.Heard.TheVariants.{Complete, Save, Restore, Disconnect, Reject, Other}
use Rattle.bus.specs.Kinds.{kind_of, target_shown}
use Rattle.table.specs.Regions.{SameRegions, InRegion, Within, KeepsToRegions}
use Rattle.table.proofs.Basics.{once_without, put_cases, put_here, seek_some, first_of_some, stands_without}
use Rattle.table.proofs.States.{open_used, open_not_waiting, away_is, waiting_is, reset_at, idle_unheld, greeted_unheld, named_unheld, tag_due_unheld, held_is}
use Rattle.table.proofs.Keeping.{}

---- soundness

module _ (e : Engine) (o : Sound e) where
  abbrev Good : Engine → Type 0
  Good e' = Sound e' × SameRegions e e'

  same : Good e
  same = (o, record { used = λ k. refl; commands = λ k. refl; size = refl })

  -- one slot changed, with its command kept
  put_regions : (k : ℕ) (x : Entry) (w : List ℕ) (l : Line) → in_use x.state ≡ in_use (e.slots k).state → x.command ≡ (e.slots k).command
      → SameRegions e (record { slots = put_slot k x e.slots; free = e.free; waiting = w; line = l; size = e.size })
  put_regions k x w l u c =
      record {
        used = put_cases (λ (j : ℕ) (y : Entry). in_use y.state ≡ in_use (e.slots j).state) k x e.slots u (λ j ne. refl);
        commands = put_cases (λ (j : ℕ) (y : Entry). y.command ≡ (e.slots j).command) k x e.slots c (λ j ne. refl);
        size = refl;
      }

  held_now : (k : ℕ) (x : Entry) (l : Line) → ((j : ℕ) (bs : List ℕ) → l ≡ held j bs → (j ≡ k) × (x.state ≡ Connected))
      → (j : ℕ) (bs : List ℕ) → l ≡ held j bs → (put_slot k x e.slots j).state ≡ Connected
  held_now k x l h j bs q =
      let r = h j bs q in
      subst (λ (i : ℕ). (put_slot k x e.slots i).state ≡ Connected) (sym r.0) (ap (λ (y : Entry). y.state) (put_here k x (e.slots k)) ∙ r.1)

  -- a slot in use and not waiting, changed
  pub slot_sound : (k : ℕ) (x : Entry) (l : Line) → in_use (e.slots k).state ≡ true → is_waiting (e.slots k).state ≡ false → in_use x.state ≡ true → is_waiting x.state ≡ false
      → ((j : ℕ) (bs : List ℕ) → l ≡ held j bs → (j ≡ k) × (x.state ≡ Connected)) → Sound (set_slot k x l e)
  slot_sound k x l u w u' w' h =
      record {
        range = put_cases (λ (j : ℕ) (y : Entry). in_use y.state ≡ true → numbered j ≡ true) k x e.slots (λ _. o.range k u) (λ j ne. o.range j);
        free_chain = put_cases (λ (j : ℕ) (y : Entry). stands_on j e.free ≡ (numbered j && not (in_use y.state))) k x e.slots
            (o.free_chain k ∙ ap (λ (t : Bool). numbered k && not t) (u ∙ sym u')) (λ j ne. o.free_chain j);
        free_once = o.free_once;
        waiting_chain = put_cases (λ (j : ℕ) (y : Entry). stands_on j e.waiting ≡ is_waiting y.state) k x e.slots (o.waiting_chain k ∙ w ∙ sym w') (λ j ne. o.waiting_chain j);
        waiting_once = o.waiting_once;
        holding = held_now k x l h;
      }

  sound_slot : (k : ℕ) (x : Entry) (l : Line) → in_use (e.slots k).state ≡ true → is_waiting (e.slots k).state ≡ false → in_use x.state ≡ true → is_waiting x.state ≡ false
      → x.command ≡ (e.slots k).command → ((j : ℕ) (bs : List ℕ) → l ≡ held j bs → (j ≡ k) × (x.state ≡ Connected)) → Good (set_slot k x l e)
  sound_slot k x l u w u' w' c h = (slot_sound k x l u w u' w' h, put_regions k x e.waiting l (u' ∙ sym u) c)

  -- a waiting slot, changed and off its chain
  pub unlink_sound : (k : ℕ) (x : Entry) (l : Line) → (e.slots k).state ≡ Waiting → in_use x.state ≡ true → is_waiting x.state ≡ false
      → ((j : ℕ) (bs : List ℕ) → l ≡ held j bs → (j ≡ k) × (x.state ≡ Connected)) → Sound (unlink_slot k x l e)
  unlink_sound k x l wt u w h =
      record {
        range = put_cases (λ (j : ℕ) (y : Entry). in_use y.state ≡ true → numbered j ≡ true) k x e.slots (λ _. o.range k (ap in_use wt)) (λ j ne. o.range j);
        free_chain = put_cases (λ (j : ℕ) (y : Entry). stands_on j e.free ≡ (numbered j && not (in_use y.state))) k x e.slots
            (o.free_chain k ∙ ap (λ (t : Bool). numbered k && not t) (ap in_use wt ∙ sym u)) (λ j ne. o.free_chain j);
        free_once = o.free_once;
        waiting_chain = put_cases (λ (j : ℕ) (y : Entry). stands_on j (without k e.waiting) ≡ is_waiting y.state) k x e.slots
            (stands_without k k e.waiting ∙ ap (λ (t : Bool). not t && stands_on k e.waiting) (eq-eqb k k refl) ∙ sym w)
            (λ j ne. stands_without j k e.waiting ∙ ap (λ (t : Bool). not t && stands_on j e.waiting) (ne_eqb j k ne) ∙ o.waiting_chain j);
        waiting_once = once_without k e.waiting o.waiting_once;
        holding = held_now k x l h;
      }

  sound_unlink : (k : ℕ) (x : Entry) (l : Line) → (e.slots k).state ≡ Waiting → in_use x.state ≡ true → is_waiting x.state ≡ false
      → x.command ≡ (e.slots k).command → ((j : ℕ) (bs : List ℕ) → l ≡ held j bs → (j ≡ k) × (x.state ≡ Connected)) → Good (unlink_slot k x l e)
  sound_unlink k x l wt u w c h = (unlink_sound k x l wt u w h, put_regions k x (without k e.waiting) l (u ∙ sym (ap in_use wt)) c)

  pub sound_line : (l : Line) → ((j : ℕ) (bs : List ℕ) → l ≡ held j bs → (e.slots j).state ≡ Connected) → Good (set_line l e)
  sound_line l h = (
    record { range = o.range; free_chain = o.free_chain; free_once = o.free_once; waiting_chain = o.waiting_chain; waiting_once = o.waiting_once; holding = h },
    record { used = λ k. refl; commands = λ k. refl; size = refl },
  )

  pub sound_cleared : Good (cleared e)
  sound_cleared = (
    record {
      range = λ k. reset_at (λ (y : Entry). in_use y.state ≡ true → numbered k ≡ true) is_open (e.slots k) (λ h _. o.range k (open_used _ h)) (λ _. o.range k);
      free_chain = λ k. reset_at (λ (y : Entry). stands_on k e.free ≡ (numbered k && not (in_use y.state))) is_open (e.slots k)
          (λ h. o.free_chain k ∙ ap (λ (t : Bool). numbered k && not t) (open_used _ h)) (λ _. o.free_chain k);
      free_once = o.free_once;
      waiting_chain = λ k. reset_at (λ (y : Entry). stands_on k e.waiting ≡ is_waiting y.state) is_open (e.slots k) (λ h. o.waiting_chain k ∙ open_not_waiting _ h) (λ _. o.waiting_chain k);
      waiting_once = o.waiting_once;
      holding = λ k bs q. absurd (idle_unheld k bs q);
    },
    record {
      used = λ k. reset_at (λ (y : Entry). in_use y.state ≡ in_use (e.slots k).state) is_open (e.slots k) (λ h. sym (open_used _ h)) (λ _. refl);
      commands = λ k. reset_at (λ (y : Entry). y.command ≡ (e.slots k).command) is_open (e.slots k) (λ _. refl) (λ _. refl);
      size = refl;
    },
  )

  abbrev In : Script → Type 0
  In p = Within (InRegion is_out e) (InRegion is_in e) Good p

  ---- not held

  in_connecting : (k : ℕ) → is_away (e.slots k).state ≡ true → In (connecting e k)
  in_connecting k h =
      let w = away_is (e.slots k).state h in
      sound_slot k _ (held k []) (ap in_use w) (ap is_waiting w) refl refl refl (λ j bs q. (held_is q, refl))

  in_selecting : (k : ℕ) → (e.slots k).state ≡ Waiting → (y : Reply) → In (selecting e k y)
  in_selecting k wt (refused n) = λ y. sound_cleared
  in_selecting k wt selected = sound_unlink k _ (held k []) wt refl refl refl (λ j bs q. (held_is q, refl))
  in_selecting k wt lost = same
  in_selecting k wt absent = sound_unlink k _ idle wt refl refl refl (λ j bs q. absurd (idle_unheld j bs q))
  in_selecting k wt done = λ y. sound_cleared
  in_selecting k wt (took v) = λ y. sound_cleared

  in_free : (p : Option ℕ) → first_of e.waiting (eligible e) ≡ p → In (on_free e p)
  in_free None q = λ y. same
  in_free (Some k) q = λ y. in_selecting k (waiting_is (e.slots k).state (sym (o.waiting_chain k) ∙ (first_of_some e.waiting (eligible e) k q).0)) y

  in_reselect : (s : Shown) (p : Option ℕ) → In (on_reselect e s p)
  in_reselect s None = λ y. sound_cleared
  in_reselect s (Some t) = λ y. sound_line (greeted t) (λ j bs q. absurd (greeted_unheld t j bs q))

  in_idle : (s : Shown) → In (idle_row e s)
  in_idle s =
      cond_both (eqb (kind_of s) 8) _ _ In (λ _. in_free (first_of e.waiting (eligible e)) refl)
      (λ _. cond_both (eqb (kind_of s) 10) _ _ In (λ _ y. same) (λ _. in_reselect s (target_shown s)))

  in_message : (f : ℕ → Script) → ((v : ℕ) → In (f v)) → (s : Shown) → In (message_row e f s)
  in_message f h s =
      cond_both (eqb (kind_of s) 7) _ _ In (λ _. h (byte_told s)) (λ _. cond_both (eqb (kind_of s) 10) _ _ In (λ _ y. same) (λ _ y. sound_cleared))

  in_lun : (t l v : ℕ) (p : Option ℕ) → seek 16 (untagged_at e t l) ≡ p → (p' : Option ℕ) → In (on_lun e t l v p p')
  in_lun t l v (Some k) q p' = in_connecting k (and_parts (is_away (e.slots k).state) _ (and_parts (away_at e t l k) _ (seek_some 16 _ k q)).0).0
  in_lun t l v None q (Some k) = sound_line (named t l) (λ j bs q. absurd (named_unheld t l j bs q))
  in_lun t l v None q None = λ y. sound_cleared

  in_greeted : (t v : ℕ) → In (greeted_byte e t v)
  in_greeted t v =
      cond_both (leb 128 v && ltb v 136) _ _ In (λ _ y. in_lun t (v - 128) v (seek 16 (untagged_at e t (v - 128))) refl (seek 16 (tagged_at e t (v - 128)))) (λ _ y. sound_cleared)

  in_named : (t l v : ℕ) → In (named_byte e t l v)
  in_named t l v = cond_both (eqb v 32) _ _ In (λ _ y. sound_line (tag_due t l) (λ j bs q. absurd (tag_due_unheld t l j bs q))) (λ _ y. sound_cleared)

  in_tag : (t l v : ℕ) → In (tag_byte e t l v)
  in_tag t l v = λ y. cond_both (numbered v && tagged_at e t l v) (connecting e v) (violation e (MessageIn v)) In
      (λ h. in_connecting v (and_parts (is_away (e.slots v).state) _ (and_parts (away_at e t l v) _ (and_parts (numbered v) _ h).1).0).0) (λ _ y. sound_cleared)

  ---- held

  module _ (k : ℕ) (bs : List ℕ) (q : e.line ≡ held k bs) where
    abbrev x : Entry
    x = e.slots k

    on : (e.slots k).state ≡ Connected
    on = o.holding k bs q

    -- slot k stays connected
    stays : (y : Entry) → y.state ≡ x.state → y.command ≡ x.command → Good (set_slot k y (held k []) e)
    stays y h c = sound_slot k y (held k []) (ap in_use on) (ap is_waiting on) (ap in_use (h ∙ on)) (ap is_waiting (h ∙ on)) c (λ j bs' r. (held_is r, h ∙ on))

    -- slot k lets the line go
    goes : (t : State) → in_use t ≡ true → is_waiting t ≡ false → Good (set_slot k (with_state t x) idle e)
    goes t u w = sound_slot k (with_state t x) idle (ap in_use on) (ap is_waiting on) u w refl (λ j bs' r. absurd (idle_unheld j bs' r))

    reline : (bs' : List ℕ) → Good (set_line (held k bs') e)
    reline bs' = sound_line (held k bs') (λ j l r. subst (λ (i : ℕ). (e.slots i).state ≡ Connected) (sym (held_is r)) on)

    in_data_in : (v : ℕ) → In (data_in_by e k x v)
    in_data_in v = cond_both (is_in x.command.direction) _ _ In
        (λ d. cond_both (ltb x.current x.command.length) _ _ In
        (λ l y. (record { slot = k; place = x.current; uncollected = ap in_use on; direction = d; within = ltb-true _ _ l; here = refl }, stays _ refl refl))
        (λ _ y. goes (Finished Overrun) refl refl))
        (λ _ y. goes (Finished WrongWay) refl refl)

    in_data_out : In (data_out_by e k x)
    in_data_out = cond_both (is_out x.command.direction) _ _ In
        (λ d. cond_both (ltb x.current x.command.length) _ _ In
        (λ l. (record { slot = k; place = x.current; uncollected = ap in_use on; direction = d; within = ltb-true _ _ l; here = refl }, λ v y. stays _ refl refl))
        (λ _ y. goes (Finished Overrun) refl refl))
        (λ _ y. goes (Finished WrongWay) refl refl)

    in_command : (t : Bool) → In (command_by e k x t)
    in_command true = λ y. sound_cleared
    in_command false = λ y. stays _ refl refl

    in_status : (v : ℕ) (p : Option ℕ) → In (status_by e k x v p)
    in_status v None = λ y. stays _ refl refl
    in_status v (Some st) = λ y. sound_cleared

    in_heard : (l : List ℕ) (h : Option Heard) (p : Option ℕ) → In (by_heard e k x l h p)
    in_heard l None p = reline l
    in_heard l (Some Complete) None = λ y. reline []
    in_heard l (Some Save) None = stays _ refl refl
    in_heard l (Some Restore) None = stays _ refl refl
    in_heard l (Some Disconnect) None = goes Away refl refl
    in_heard l (Some Reject) None = reline []
    in_heard l (Some Other) None = λ y. reline []
    in_heard l (Some Complete) (Some st) = goes (Finished Done) refl refl
    in_heard l (Some Save) (Some st) = λ y. reline []
    in_heard l (Some Restore) (Some st) = λ y. reline []
    in_heard l (Some Disconnect) (Some st) = λ y. reline []
    in_heard l (Some Reject) (Some st) = λ y. reline []
    in_heard l (Some Other) (Some st) = λ y. reline []

    in_byte : (l : List ℕ) → In (message_by e k x l)
    in_byte l = λ y. in_heard l (heard_of (message_of l)) x.status

    in_held : (s : Shown) → In (held_by e k x s)
    in_held DataOut = in_data_out
    in_held (DataIn v) = in_data_in v
    in_held CommandOut = in_command x.sent
    in_held (Status v) = in_status v x.status
    in_held Reserved4 = λ y. sound_cleared
    in_held Reserved5 = λ y. sound_cleared
    in_held MessageOut = λ y. same
    in_held (MessageIn v) = in_byte (v ∷ [])
    in_held FreeLine = goes (Finished Dropped) refl refl
    in_held (Reselect t) = λ y. sound_cleared
    in_held Pause = λ y. same

    in_on : (l : List ℕ) (s : Shown) → In (on_held e k x l s)
    in_on [] s = in_held s
    in_on (m ∷ l) s = in_message (λ v. message_by e k x ((m ∷ l) ++ v ∷ [])) (λ v. in_byte ((m ∷ l) ++ v ∷ [])) s

  in_row : (l : Line) → e.line ≡ l → (s : Shown) → In (row e l s)
  in_row idle q s = in_idle s
  in_row (greeted t) q s = in_message (greeted_byte e t) (in_greeted t) s
  in_row (named t l) q s = in_message (named_byte e t l) (in_named t l) s
  in_row (tag_due t l) q s = in_message (tag_byte e t l) (in_tag t l) s
  in_row (held k bs) q s = in_on k bs q bs s

pub keeps_to_regions : KeepsToRegions
keeps_to_regions e o = λ s. in_row e o e.line refl s
