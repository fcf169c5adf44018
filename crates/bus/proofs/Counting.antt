-- Each call keeps the number of open nexuses theirs. Assumes nothing.
use Rattle.std.proofs.Common.{◌≡◌, ℕ, suc, ◌≤◌, Bool, true, false, cond, not, ◌||◌, eqb, leb, List, [], ◌∷◌, ◌++◌, length, is_some, Some, None, Option, sym, refl, ap, ◌∙◌, subst, arith}
use mathlib.Core.Bool.{false≢true}
use Rattle.std.proofs.lemmas.Bool.{or_parts, leb-false}
use Rattle.scsi.specs.declared.greeting.Greeting.{Greeting}
use Rattle.scsi.specs.Greetings.{greeting_of}
use Rattle.scsi.specs.Messages.{Message, message_of}
use Rattle.scsi.specs.Messages.Message.{complete, save, restore, disconnect, abort, reject, no_operation, abort_tag, extended, sdtr, simple_tag, identify, other}
use Rattle.bus.specs.declared.Shown.{Shown}
use Rattle.bus.specs.Kinds.{kind_of, target_shown, shows_free}
use Rattle.bus.specs.State.{Name, Nexus, Heard, nothing, named, tag_due, Line, free, retaken, held, Cable, BusState, same_name, adjust, change, close, with_line, with_begun, with_shelf, fresh_nexus, sent, moved, given, ended, saves, restored}
use Rattle.bus.specs.Calls.{Call, select, accept, command, give, take, speak, wait, reset, Reply, refused, selected, lost, absent, done, took, is_refused}
use Rattle.bus.specs.Refusals.{due, name_of, greeting_refused}
use Rattle.bus.specs.Effects.{Selects, opens, retakes, on_holder, completes, hears, reads, takes, Greets, Takes, aborts, ends_line}
use Rattle.bus.specs.Showing.{Shows, LineShows}
use Rattle.bus.specs.Rules.{taken, Rule, Did}
use Rattle.bus.specs.Counting.{among, Different, Counted, AlwaysCounted}
use Rattle.bus.proofs.Names.{same_name_is}

-- the same names are open
same_open : (c c' : Cable) → c'.opened ≡ c.opened → ((n : Name) → is_some (c'.nexuses n) ≡ is_some (c.nexuses n)) → Counted c → Counted c'
same_open c c' o h k = record { names = k.names; different = k.different; all = λ n. h n ∙ k.all n; number = k.number ∙ sym o; few = subst (λ (i : ℕ). i ≤ 16) (sym o) k.few }

adjusted : (f : Nexus → Nexus) (o : Option Nexus) → is_some (adjust f o) ≡ is_some o
adjusted f None = refl
adjusted f (Some x) = refl

pub changes : (n : Name) (f : Nexus → Nexus) (c : Cable) → Counted c → Counted (change n f c)
changes n f c = same_open c (change n f c) refl (λ m. go m (same_name m n) refl)
  where
    go : (m : Name) (b : Bool) → same_name m n ≡ b → is_some (cond b (adjust f (c.nexuses n)) (c.nexuses m)) ≡ is_some (c.nexuses m)
    go m true e = adjusted f (c.nexuses n) ∙ ap (λ (k : Name). is_some (c.nexuses k)) (sym (same_name_is m n e))
    go m false e = refl

---- a name more, a name less

pub opening : (c : Cable) (t : ℕ) (g : Greeting) → greeting_refused c t (Some g) ≡ false → Counted c → Counted (opens t (Some g) c)
opening c t g h k =
    let both = or_parts (is_some (c.nexuses (name_of t g))) (leb 16 c.opened) h in
    record {
      names = name_of t g ∷ k.names;
      different = (sym (k.all (name_of t g)) ∙ both.0, k.different);
      all = λ m. go m (same_name m (name_of t g));
      number = ap suc k.number;
      few = omega (arith, leb-false 16 c.opened both.1);
    }
  where
    go : (m : Name) (b : Bool) → is_some (cond b (Some (fresh_nexus g.leave)) (c.nexuses m)) ≡ (b || among m k.names)
    go m true = refl
    go m false = k.all m

removed : Name → List Name → List Name
removed n [] = []
removed n (m ∷ ms) = cond (same_name n m) ms (m ∷ removed n ms)

among_removed : (m n : Name) (ns : List Name) → Different ns → among m (removed n ns) ≡ cond (same_name m n) false (among m ns)
unfolding removed
among_removed m n [] d = go (same_name m n)
  where
    go : (b : Bool) → false ≡ cond b false false
    go true = refl
    go false = refl
among_removed m n (k ∷ ks) d = go (same_name n k) refl (same_name m n) refl (among_removed m n ks d.1)
  where
    go : (a : Bool) → same_name n k ≡ a → (b : Bool) → same_name m n ≡ b → among m (removed n ks) ≡ cond b false (among m ks)
        → among m (cond a ks (k ∷ removed n ks)) ≡ cond b false (same_name m k || among m ks)
    go true e true f h = ap (λ (j : Name). among j ks) (same_name_is m n f ∙ same_name_is n k e) ∙ d.0
    go true e false f h = ap (λ (b : Bool). b || among m ks) (sym (ap (same_name m) (sym (same_name_is n k e)) ∙ f))
    go false e true f h = ap (λ (b : Bool). b || among m (removed n ks)) (ap (λ (j : Name). same_name j k) (same_name_is m n f) ∙ e) ∙ h
    go false e false f h = ap (λ (b : Bool). same_name m k || b) h

removed_different : (n : Name) (ns : List Name) → Different ns → Different (removed n ns)
unfolding removed
removed_different n [] d = tt
removed_different n (k ∷ ks) d = go (same_name n k) (removed_different n ks d.1)
  where
    still : (b : Bool) → cond b false (among k ks) ≡ false
    still true = refl
    still false = d.0

    go : (a : Bool) → Different (removed n ks) → Different (cond a ks (k ∷ removed n ks))
    go true h = d.1
    go false h = (among_removed k n ks d.1 ∙ still (same_name k n), h)

removed_length : (n : Name) (ns : List Name) → among n ns ≡ true → suc (length (removed n ns)) ≡ length ns
unfolding removed
removed_length n [] h = absurd (false≢true h)
removed_length n (k ∷ ks) h = go (same_name n k) refl (λ e. removed_length n ks e)
  where
    go : (a : Bool) → same_name n k ≡ a → (among n ks ≡ true → suc (length (removed n ks)) ≡ length ks) → suc (length (cond a ks (k ∷ removed n ks))) ≡ suc (length ks)
    go true e less = refl
    go false e less = ap suc (less (sym (ap (λ (b : Bool). b || among n ks) e) ∙ h))

pub closing : (n : Name) (c : Cable) → is_some (c.nexuses n) ≡ true → Counted c → Counted (close n c)
closing n c h k =
    let there = sym (k.all n) ∙ h in
    let less = removed_length n k.names there in
    record {
      names = removed n k.names;
      different = removed_different n k.names k.different;
      all = λ m. go m (same_name m n) ∙ sym (among_removed m n k.names k.different);
      number = omega (arith, less, k.number);
      few = omega (arith, k.few);
    }
  where
    go : (m : Name) (b : Bool) → is_some (cond b None (c.nexuses m)) ≡ cond b false (among m k.names)
    go m true = refl
    go m false = k.all m

---- call by call

moved_line : (c : Cable) (l : Line) (bs : List ℕ) → Counted c → Counted (with_line l (with_begun bs c))
moved_line c l bs = same_open c (with_line l (with_begun bs c)) refl (λ n. refl)

some : (o : Option Nexus) (x : Nexus) → o ≡ Some x → is_some o ≡ true
some o x e = ap is_some e

completing : (n : Name) (o : Option Nexus) (c : Cable) → o ≡ c.nexuses n → Counted c → Counted (completes n o c)
completing n None c e k = k
completing n (Some x) c e k = closing n (with_shelf _ c) (some (c.nexuses n) x (sym e)) (same_open c (with_shelf _ c) refl (λ m. refl) k)

quiet : (c : Cable) → Counted c → Counted (with_begun [] c)
quiet c = same_open c (with_begun [] c) refl (λ n. refl)

hearing : (m : Message) (n : Name) (c : Cable) → Counted c → Counted (hears m n c)
hearing complete n c k = completing n (c.nexuses n) (with_begun [] c) refl (quiet c k)
hearing save n c k = quiet (change n saves c) (changes n saves c k)
hearing restore n c k = quiet (change n restored c) (changes n restored c k)
hearing disconnect n c k = moved_line (change n restored c) free [] (changes n restored c k)
hearing abort n c k = quiet c k
hearing reject n c k = quiet c k
hearing no_operation n c k = quiet c k
hearing abort_tag n c k = quiet c k
hearing (extended bs) n c k = quiet c k
hearing (sdtr m x) n c k = quiet c k
hearing (simple_tag t) n c k = quiet c k
hearing (identify l u) n c k = quiet c k
hearing (other b bs) n c k = quiet c k

reading : (o : Option Message) (bs : List ℕ) (n : Name) (c : Cable) → Counted c → Counted (reads o bs n c)
reading None bs n c k = same_open c (with_begun bs c) refl (λ m. refl) k
reading (Some m) bs n c k = hearing m n c k

taking : (kind v : ℕ) (n : Name) (c : Cable) → Counted c → Counted (takes kind v n c)
taking kind v n c k = go (eqb kind 1) (eqb kind 3)
  where
    go : (a b : Bool) → Counted (cond a (change n moved c) (cond b (change n (ended v) c) (reads (message_of (c.begun ++ v ∷ [])) (c.begun ++ v ∷ []) n c)))
    go true b = changes n moved c k
    go false true = changes n (ended v) c k
    go false false = reading (message_of (c.begun ++ v ∷ [])) (c.begun ++ v ∷ []) n c k

holding : (f : Name → Nexus → Nexus) (l : Line) (c : Cable) → Counted c → Counted (on_holder (λ n. change n (f n)) l c)
holding f free c k = k
holding f (retaken t h) c k = k
holding f (held n) c k = changes n (f n) c k

lined : (l : Line) (c c' : Cable) → c' ≡ with_line l c → Counted c → Counted c'
lined l c c' e k = subst Counted (sym e) (same_open c (with_line l c) refl (λ n. refl) k)

greeting : (c : Cable) (t : ℕ) (h : Heard) (v : ℕ) (c' : Cable) → Greets c t h v c' → Counted c → Counted c'
greeting c t nothing v c' g k = lined _ c c' g.5 k
greeting c t (named l) v c' g k = lined _ c c' g.1 k
greeting c t (tag_due l) v c' g k = lined _ c c' g.2 k

takes_byte : (l : Line) (s : Shown) (v : ℕ) (c c' : Cable) → Takes l s v c c' → Counted c → Counted c'
takes_byte free s v c c' e k = subst Counted (sym e) k
takes_byte (retaken t h) s v c c' g k = greeting c t h v c' g k
takes_byte (held n) s v c c' e k = subst Counted (sym e) (taking (kind_of s) v n c k)

retaking : (o : Option ℕ) (c : Cable) → Counted c → Counted (retakes o c)
retaking None c k = k
retaking (Some t) c k = same_open c (with_line (retaken t nothing) c) refl (λ n. refl) k

aborting : (l : Line) (s : Shown) (c : Cable) → LineShows c l s → Counted c → Counted (ends_line l c)
aborting free s c h k = k
aborting (retaken t g) s c h k = moved_line c free [] k
aborting (held n) s c h k = closing n c (some (c.nexuses n) h.0 h.1) k

speaking : (a : Bool) (s : Shown) (c : Cable) → LineShows c c.line s → Counted c → Counted (cond a (ends_line c.line c) c)
speaking true s c h k = aborting c.line s c h k
speaking false s c h k = k

selecting : (c : Cable) (t : ℕ) (g : List ℕ) (r : Reply) (c' : Cable) (o : Option Greeting) → greeting_of g ≡ o → greeting_refused c t o ≡ false → Selects c t g r c' → Counted c → Counted c'
selecting c t g (refused n) c' o e f s k = absurd s
selecting c t g selected c' None e f s k = absurd (false≢true (sym f))
selecting c t g selected c' (Some x) e f s k = subst Counted (sym (s.1 ∙ ap (λ (q : Option Greeting). opens t q c) e)) (opening c t x f k)
selecting c t g lost c' o e f s k = subst Counted (sym s.1) k
selecting c t g absent c' o e f s k = subst Counted (sym s.1) k
selecting c t g done c' o e f s k = absurd s
selecting c t g (took v) c' o e f s k = absurd s

granted : (b : BusState) (c : Call) (r : Reply) (c' : Cable) → Shows b → due b c ≡ false → Rule b c r c' → Counted b.cable → Counted c'
granted b (select t g) r c' s d h k = selecting b.cable t g r c' (greeting_of g) refl (or_parts (not (shows_free b.shown)) _ d).1 h k
granted b accept r c' s d h k = subst Counted (sym h) (retaking (target_shown b.shown) b.cable k)
granted b (command e) r c' s d h k = subst Counted (sym h) (holding (λ n. sent e) b.cable.line b.cable k)
granted b (give v) r c' s d h k = subst Counted (sym h) (holding (λ n. given v) b.cable.line b.cable k)
granted b take r c' s d h k = takes_byte b.cable.line b.shown (taken r) b.cable c' h k
granted b (speak m) r c' s d h k = subst Counted (sym h) (speaking (aborts m) b.shown b.cable s k)
granted b wait r c' s d h k = subst Counted (sym h) k
granted b reset r c' s d h k = subst Counted (sym h) (record { names = []; different = tt; all = λ n. refl; number = refl; few = omega arith })

called : (b : BusState) (c : Call) (r : Reply) (b' : BusState) → b.order ≡ true → Shows b → Did b c r b' → Counted b.cable → Counted b'.cable
called b c r b' o s d k = go (is_refused r) refl
  where
    go : (t : Bool) → is_refused r ≡ t → Counted b'.cable
    go true e = subst (λ (x : BusState). Counted x.cable) (sym (d.kept e)) k
    go false e = granted b c r b'.cable s (sym d.turned_down ∙ e) (d.keeps_rules o e).rule k

pub always_counted : AlwaysCounted
always_counted =
    record {
      at_first = λ b r. record { names = []; different = tt; all = λ n. ap is_some (r.none n); number = sym r.no_count; few = omega (arith, r.no_count) };
      after_a_call = called;
    }
