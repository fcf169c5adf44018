-- A strict bus shows nothing between, and never lets go. Assumes nothing.
use Rattle.std.proofs.Common.{◌≡◌, ℕ, ◌<◌, ◌≤◌, Bool, true, false, cond, not, eqb, ltb, List, [], ◌∷◌, Some, None, Option, sym, refl, ap, ◌∙◌, subst, arith}
use Rattle.std.proofs.lemmas.Bool.{ltb-true, ltb-false, eqb-false}
use Rattle.scsi.specs.declared.greeting.Greeting.{Greeting}
use Rattle.scsi.specs.Greetings.{greeting_of}
use Rattle.shelf.specs.declared.Way.{Way}
use Rattle.shelf.specs.declared.Way.TheVariants.{Still, In, Out}
use Rattle.shelf.specs.Model.{Model, is_present, way_of, count_of, byte_of, status_of, finished}
use Rattle.shelf.specs.Laws.{Laws}
use Rattle.shelf.proofs.Lawful.{lawful}
use Rattle.bus.specs.declared.Shown.{Shown}
use Rattle.bus.specs.declared.Shown.TheVariants.{DataOut, DataIn, Command, Status, MessageIn, Pause}
use Rattle.bus.specs.Kinds.{byte_shown, shows_free}
use Rattle.bus.specs.State.{Name, Nexus, held, Cable, same_name, BusState, change, sent, given, moved, ended, fresh_nexus}
use Rattle.bus.specs.Calls.{Call, select, accept, command, give, take, speak, wait, reset, Reply, refused, selected, lost, absent, took_shown}
use Rattle.bus.specs.Refusals.{due, name_of}
use Rattle.bus.specs.Effects.{opens, ends_line, aborts, finishes}
use Rattle.bus.specs.Showing.{data_shown}
use Rattle.bus.proofs.Names.{same_name_is}
use Rattle.bus.specs.Single.{resting, holding}
use Rattle.strict_bus.specs.Text.{underway, by_status, by_command, strict, granted, does, Strictly, Called, at_last, CallsOn, Plain, StraightThrough}
use Rattle.bus.proofs.Single.{changed, closed, completed, showing}
use Rattle.strict_bus.specs.Holding.{state, is_strict}

-- the place of a nexus before and after its command is sent
abbrev Placed : Model → Name → Nexus → Option (List ℕ) → Type 0
Placed m n x None = (x.place ≡ 0) × (x.status ≡ None)
Placed m n x (Some d) = x.place ≤ count_of m n.target n.lun d

-- what is so in each state
data Straight : BusState → Type 0 where
  rests : (m : Model) → Laws m → Straight (strict (resting m))
  holds : (m : Model) → Laws m → (n : Name) (x : Nexus) → Placed m n x x.command → Straight (state m n x)

held_strict : (m : Model) → Laws m → (n : Name) (x : Nexus) → Placed m n x x.command → Straight (strict (holding m n x))
held_strict m l n x p = subst Straight (is_strict m n x) (holds m l n x p)

---- what a call does in each state

on_rest : (m : Model) → Laws m → (c : Call) → Straight (strict (does (strict (resting m)) c))
on_rest m l (select t g) = go (is_present m t) (greeting_of g)
  where
    go : (p : Bool) (o : Option Greeting) → Straight (strict (cond p (opens t o (resting m)) (resting m)))
    go true None = rests m l
    go true (Some k) = held_strict m l (name_of t k) (fresh_nexus k.leave) (refl, refl)
    go false o = rests m l
on_rest m l accept = rests m l
on_rest m l (command d) = rests m l
on_rest m l (give v) = rests m l
on_rest m l take = rests m l
on_rest m l (speak ms) = go (aborts ms)
  where
    go : (a : Bool) → Straight (strict (cond a (resting m) (resting m)))
    go true = rests m l
    go false = rests m l
on_rest m l wait = rests m l
on_rest m l reset = rests m l

-- what is shown of a command underway
data Sees (m : Model) (n : Name) (d : List ℕ) (p : ℕ) : Shown → Type 0 where
  asked : p < count_of m n.target n.lun d → Sees m n d p DataOut
  offered : (v : ℕ) → p < count_of m n.target n.lun d → Sees m n d p (DataIn v)
  told : (v : ℕ) → Sees m n d p (Status v)

sees : (m : Model) → Laws m → (n : Name) (d : List ℕ) (p : ℕ) → p ≤ count_of m n.target n.lun d → Sees m n d p (underway m n d p)
sees m l n d p h =
    go (ltb p (count_of m n.target n.lun d)) refl (way_of m n.target n.lun d) refl (eqb p (count_of m n.target n.lun d)) refl
  where
    go : (less : Bool) → ltb p (count_of m n.target n.lun d) ≡ less → (w : Way) → way_of m n.target n.lun d ≡ w
        → (last : Bool) → eqb p (count_of m n.target n.lun d) ≡ last
        → Sees m n d p (cond less (data_shown w (byte_of m n.target n.lun d p)) (cond last (Status (status_of m n.target n.lun d)) Pause))
    go true e Still w last f = absurd (omega (arith, ltb-true _ _ e, l.owed.still n.target n.lun d w))
    go true e In w last f = offered _ (ltb-true _ _ e)
    go true e Out w last f = asked (ltb-true _ _ e)
    go false e w q true f = told _
    go false e w q false f = absurd (eqb-false _ _ f (omega (arith, ltb-false _ _ e)))

-- what is shown to the nexus that holds the line
data Meets (m : Model) (n : Name) (x : Nexus) : Shown → Type 0 where
  fresh : x.place ≡ 0 → Meets m n x Command
  going : (d : List ℕ) → x.command ≡ Some d → (s : Shown) → Sees m n d x.place s → Meets m n x s
  over : Meets m n x (MessageIn 0)

meets : (m : Model) → Laws m → (n : Name) (x : Nexus) → Placed m n x x.command → Meets m n x (by_command m n x x.command)
meets m l n x p = by x.command refl p
  where
    ending : (d : List ℕ) → x.command ≡ Some d → (s : Option ℕ) → x.place ≤ count_of m n.target n.lun d → Meets m n x (by_status m n d x.place s)
    ending d c None p = going d c _ (sees m l n d x.place p)
    ending d c (Some st) p = over

    by : (o : Option (List ℕ)) → x.command ≡ o → Placed m n x o → Meets m n x (by_command m n x o)
    by None c p = fresh p.0
    by (Some d) c p = ending d c x.status p

to : (m : Model) → Laws m → (n : Name) (x : Nexus) (f : Nexus → Nexus) → Placed m n (f x) (f x).command → Straight (strict (change n f (holding m n x)))
to m l n x f p = subst (λ (c : Cable). Straight (strict c)) (sym (changed m n x f)) (held_strict m l n (f x) p)

on_command : (m : Model) → Laws m → (n : Name) (x : Nexus) (d : List ℕ) (s : Shown) → Meets m n x s → due (showing m n x s) (command d) ≡ false
    → Straight (strict (change n (sent d) (holding m n x)))
on_command m l n x d s (fresh p) h = to m l n x (sent d) (omega arith)
on_command m l n x d s (going e c u (asked k)) h = cc
on_command m l n x d s (going e c u (offered v k)) h = cc
on_command m l n x d s (going e c u (told v)) h = cc
on_command m l n x d s over h = cc

on_give : (m : Model) → Laws m → (n : Name) (x : Nexus) (v : ℕ) (s : Shown) → Meets m n x s → due (showing m n x s) (give v) ≡ false
    → Straight (strict (change n (given v) (holding m n x)))
on_give m l n x v s (fresh p) h = cc
on_give m l n x v s (going d c u (asked k)) h = to m l n x (given v) (subst (Placed m n (given v x)) (sym c) k)
on_give m l n x v s (going d c u (offered w k)) h = cc
on_give m l n x v s (going d c u (told w)) h = cc
on_give m l n x v s over h = cc

after_finish : (m : Model) → Laws m → (n : Name) (o : Option (List ℕ)) (out : List ℕ) → Laws (finishes n o out m)
after_finish m l n None out = l
after_finish m l n (Some d) out = lawful (finished m n.target n.lun d out) l.owed

on_take : (m : Model) → Laws m → (n : Name) (x : Nexus) → Placed m n x x.command → (s : Shown) → Meets m n x s → due (showing m n x s) take ≡ false
    → Straight (strict (does (showing m n x s) take))
on_take m l n x p s (fresh q) h = cc
on_take m l n x p s (going d c u (asked k)) h = cc
on_take m l n x p s (going d c u (offered v k)) h = to m l n x moved (subst (Placed m n (moved x)) (sym c) k)
on_take m l n x p s (going d c u (told v)) h = to m l n x (ended v) (subst (Placed m n (ended v x)) (sym c) (subst (Placed m n x) c p))
on_take m l n x p s over h =
    subst (λ (c : Cable). Straight (strict c)) (sym (completed m n x)) (rests _ (after_finish m l n x.command x.collected))

on_select : (m : Model) (n : Name) (x : Nexus) (s : Shown) → Meets m n x s → not (shows_free s) ≡ true
on_select m n x s (fresh p) = refl
on_select m n x s (going d c u (asked k)) = refl
on_select m n x s (going d c u (offered v k)) = refl
on_select m n x s (going d c u (told v)) = refl
on_select m n x s over = refl

on_hold : (m : Model) (l : Laws m) (n : Name) (x : Nexus) → Placed m n x x.command → (s : Shown) → Meets m n x s → (c : Call) → due (showing m n x s) c ≡ false
    → Straight (strict (does (showing m n x s) c))
on_hold m l n x p s q (select t g) h = let e = on_select m n x s q in let z = rw e at h in cc
on_hold m l n x p s q accept h = held_strict m l n x p
on_hold m l n x p s q (command d) h = on_command m l n x d s q h
on_hold m l n x p s q (give v) h = on_give m l n x v s q h
on_hold m l n x p s q take h = on_take m l n x p s q h
on_hold m l n x p s q (speak ms) h = go (aborts ms)
  where
    go : (a : Bool) → Straight (strict (cond a (ends_line (held n) (holding m n x)) (holding m n x)))
    go true = subst (λ (c : Cable). Straight (strict c)) (sym (closed m n x)) (rests m l)
    go false = held_strict m l n x p
on_hold m l n x p s q wait h = held_strict m l n x p
on_hold m l n x p s q reset h = rests m l

---- lists of calls

one_call : (b : BusState) → Straight b → (c : Call) (r : Reply) (b' : BusState) → Strictly b c r b' → Straight b'
one_call b h c r b' did = go (due b c) refl did.after
  where
    allowed : (b : BusState) → Straight b → due b c ≡ false → Straight (strict (does b c))
    allowed b (rests m l) d = on_rest m l c
    allowed b (holds m l n x p) d = on_hold m l n x p _ (meets m l n x p) c d

    go : (t : Bool) → due b c ≡ t → b' ≡ cond t b (strict (does b c)) → Straight b'
    go true d e = subst Straight (sym e) h
    go false d e = subst Straight (sym e) (allowed b h d)

all_calls : (b : BusState) → Straight b → (cs : List Called) → CallsOn b cs → Straight (at_last b cs)
all_calls b h [] u = h
all_calls b h (c ∷ cs) u = one_call (at_last b cs) (all_calls b h cs u.0) c.call c.reply c.after u.1

plain : (m : Model) (n : Name) (x : Nexus) (s : Shown) → Meets m n x s → Plain s
plain m n x s (fresh p) = tt
plain m n x s (going d c u (asked k)) = tt
plain m n x s (going d c u (offered v k)) = tt
plain m n x s (going d c u (told v)) = tt
plain m n x s over = refl

shows_plain : (b : BusState) → Straight b → Plain b.shown
shows_plain b (rests m l) = tt
shows_plain b (holds m l n x p) = plain m n x _ (meets m l n x p)

not_lost : (b : BusState) (c : Call) → granted b c ≡ lost → ⊥
not_lost b (select t g) e = go (is_present b.cable.shelf t) e
  where
    go : (p : Bool) → cond p selected absent ≡ lost → ⊥
    go true e = cc
    go false e = cc
not_lost b accept e = cc
not_lost b (command d) e = cc
not_lost b (give v) e = cc
not_lost b take e = go (byte_shown b.shown) e
  where
    go : (o : Option ℕ) → took_shown o ≡ lost → ⊥
    go None e = cc
    go (Some v) e = cc
not_lost b (speak m) e = cc
not_lost b wait e = cc
not_lost b reset e = cc

never_lost : (b : BusState) (c : Call) (r : Reply) → r ≡ cond (due b c) (refused 11) (granted b c) → r ≡ lost → ⊥
never_lost b c r e f = go (due b c) (sym e ∙ f)
  where
    go : (t : Bool) → cond t (refused 11) (granted b c) ≡ lost → ⊥
    go true e = cc
    go false e = not_lost b c e

no_leave : (b : BusState) → Straight b → (n : Name) (x : Nexus) → b.cable.nexuses n ≡ Some x → b.cable.line ≡ held n
no_leave b (rests m l) n x e = cc
no_leave b (holds m l k y p) n x e = go (same_name n k) refl e
  where
    go : (t : Bool) → same_name n k ≡ t → cond t (Some y) None ≡ Some x → held k ≡ held n
    go true f e = ap held (sym (same_name_is n k f))
    go false f e = cc

pub straight_through : (m : Model) → Laws m → StraightThrough (strict (resting m))
straight_through m l =
    record {
      nothing_between = λ cs h. shows_plain _ (all_calls _ (rests m l) cs h);
      never_lost = λ c cs h. never_lost (at_last _ cs) c.call c.reply h.1.answer;
      never_lets_go = λ cs h. no_leave _ (all_calls _ (rests m l) cs h);
    }
