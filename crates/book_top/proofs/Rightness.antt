-- An item that is accepted has a derivation, and one that a rule refuses has none, for the reason that is said.
use Rattle.std.proofs.Common.{◌≡◌, ℕ, zero, suc, ◌-◌, Bool, true, false, nat_lt, if◌then◌else◌, [], length, position, Option, Some, None, Result, Ok, Err, refl, ap, subst, ◌∙◌}
use Rattle.std.specs.Prelude.{⊤}
use Rattle.std.specs.Str.{bytes_eq}
use Rattle.ld_terms.specs.Tree.{Trees, Nil, ◌▸◌, count}
use Rattle.ld_terms.specs.Entry.{Env}
use Rattle.ld_terms.specs.Derivable.{IsLegalContext}
use Rattle.ld_laws.proofs.LegalContexts.{legal_of, last_of}
use Rattle.ld_reduce.specs.Task.{Gives, Fails, High, Nested, Pairs}
use Rattle.ld_infer.specs.Reading.{Refusal}
use Rattle.ld_infer.specs.Refusals.{HoldsAt}
use Rattle.ld_infer.specs.Standing.{without}
use Rattle.ld_defrules.proofs.Rightness.{judging_right, reasons_hold}
use Rattle.fb_base.specs.declared.places.Span.{Span}
use Rattle.fb_parse.specs.Items.{SurfaceItem, SurfaceKind}
use Rattle.fb_parse.specs.Items as item
use Rattle.fb_scope.specs.State.{flag_fault}
use Rattle.fb_scope.specs.declared.fault.ScopeFault.{ScopeFault}
use Rattle.fb_scope.specs.declared.fault.ScopeFault.TheVariants as scope
use Rattle.book_top.specs.declared.status.TextFault.{TextFault}
use Rattle.book_top.specs.Book.{Book, Reading, Flag, Prim, Line, names_of, closed}
use Rattle.book_top.specs.Names.{reading_of, ◌>>=◌}
use Rattle.book_top.specs.Verdict.{Verdict, Accepted, TextRefused, ManyFlags, TooHigh, RuleRefused, StopsHigh, StopsNested, Verdicts, unread, high, judged, text_refused, at_depth, flag_free, entry_free, name_free, read_here, read_item, judging}
use Rattle.book_top.specs.Rightness.{IsLegalBook, HasDerivation, HasNoDerivation, PartOfItem, IsDerivable, IsUnderivable, VerdictDerivable, RefusedUnderivable}

-- a context stays legal without its last variables
without_legal : {env : Env} (n : ℕ) (ctx : Trees) → IsLegalContext env ctx → IsLegalContext env (without n ctx)
without_legal zero ctx l = l
without_legal (suc n) Nil l = without_legal n Nil l
without_legal (suc n) (ctx ▸ a) l = without_legal n ctx (legal_of (last_of l).typed)

pub closed_legal : (bars : ℕ) (b : Book) → IsLegalBook b → IsLegalBook (closed bars b)
closed_legal bars b l = without_legal (count b.context - bars) b.context l

-- Where an item isn't read, a text is refused or a limit is passed.
abbrev IsOfText : Verdict → Type 0
IsOfText Accepted = ⊥
IsOfText (TextRefused f) = ⊤
IsOfText ManyFlags = ⊤
IsOfText TooHigh = ⊥
IsOfText (RuleRefused r) = ⊥
IsOfText StopsHigh = ⊥
IsOfText StopsNested = ⊥

abbrev OnlyText : {A : Type 0} → Result A Verdict → Type 0
OnlyText (Ok x) = ⊤
OnlyText (Err v) = IsOfText v

bind_text : {A B : Type 0} (r : Result A Verdict) (f : A → Result B Verdict) → OnlyText r → ((x : A) → OnlyText (f x)) → OnlyText (r >>= f)
bind_text (Ok x) f h g = g x
bind_text (Err v) f h g = h

if_text : {A : Type 0} (t : Bool) (p q : Result A Verdict) → OnlyText p → OnlyText q → OnlyText (if t then p else q)
if_text true p q h g = h
if_text false p q h g = g

names_text : {A : Type 0} (r : Result A TextFault) → OnlyText (text_refused r)
names_text (Ok x) = tt
names_text (Err f) = tt

flag_text : (at : Span) (o : Option ScopeFault) → OnlyText (flag_free at o)
flag_text at None = tt
flag_text at (Some scope.FlagTaken) = tt
flag_text at (Some f) = tt

entry_text : (at : Span) (o : Option ℕ) → OnlyText (entry_free at o)
entry_text at None = tt
entry_text at (Some k) = tt

name_text : (b : Book) (i : SurfaceItem) (k : SurfaceKind) → OnlyText (name_free b i k)
name_text b i (item.Flag a) = flag_text i.name_span (flag_fault i.name b.scope.flags)
name_text b i (item.Prim a) = entry_text i.name_span (position (bytes_eq i.name) (names_of b.env))
name_text b i (item.Line body a) = entry_text i.name_span (position (bytes_eq i.name) (names_of b.env))

here_text : (b : Book) (i : SurfaceItem) → OnlyText (read_here b i)
here_text b i =
    bind_text (name_free b i i.kind) (λ free. text_refused (reading_of b.scope (names_of b.env) i.span i.kind)) (name_text b i i.kind)
    (λ free. names_text (reading_of b.scope (names_of b.env) i.span i.kind))

read_text : (b : Book) (i : SurfaceItem) → OnlyText (read_item b i)
read_text b i =
    bind_text (at_depth b i) (λ deep. read_here (closed i.bars b) i) (if_text (nat_lt (length b.scope.flags) i.bars) _ (Ok tt) tt tt)
    (λ deep. here_text (closed i.bars b) i)

-- what the judging says
gives_derivation : (b : Book) (r : Reading) (L : Pairs) (n : ℕ) → IsLegalBook b → judging b r [] (Gives tt) L n → HasDerivation b r
gives_derivation b (Flag type) L n legal h = judging_right.accepted.flags b.env b.context type [] L n legal tt h
gives_derivation b (Prim type) L n legal h = judging_right.accepted.primitives b.env b.context type [] L n legal tt h
gives_derivation b (Line body type) L n legal h = judging_right.accepted.lines b.env b.context body type [] L n legal tt h

fails_derivation : (b : Book) (r : Reading) (L : Pairs) (f : Refusal) (n : ℕ) → IsLegalBook b → judging b r [] (Fails f) L n → HasNoDerivation b r
fails_derivation b (Flag type) L f n legal h = judging_right.refused.flags b.env b.context type [] L f n legal tt h
fails_derivation b (Prim type) L f n legal h = judging_right.refused.primitives b.env b.context type [] L f n legal tt h
fails_derivation b (Line body type) L f n legal h = judging_right.refused.lines b.env b.context body type [] L f n legal tt h

fails_reason : (b : Book) (r : Reading) (L : Pairs) (f : Refusal) (n : ℕ) → IsLegalBook b → judging b r [] (Fails f) L n → HoldsAt b.env (PartOfItem b.context r) f
fails_reason b (Flag type) L f n legal h = reasons_hold.flags b.env b.context type [] L f n legal tt h
fails_reason b (Prim type) L f n legal h = reasons_hold.primitives b.env b.context type [] L f n legal tt h
fails_reason b (Line body type) L f n legal h = reasons_hold.lines b.env b.context body type [] L f n legal tt h

module _ (b : Book) (i : SurfaceItem) (legal : IsLegalBook b) where
  accepted_by : {v : Verdict} {n : ℕ} → Verdicts b i v n → v ≡ Accepted → IsDerivable b i
  accepted_by (unread e) p = absurd (subst OnlyText (e ∙ ap Err p) (read_text b i))
  accepted_by (high e big) p = absurd (cc)
  accepted_by (judged {r = r} (Gives x) known {n = n} e small h) p =
      record { reading = r; read = e; derivation = gives_derivation (closed i.bars b) r known n (closed_legal i.bars b legal) h }
  accepted_by (judged (Fails f) known e small h) p = absurd (cc)
  accepted_by (judged High known e small h) p = absurd (cc)
  accepted_by (judged Nested known e small h) p = absurd (cc)

  refused_by : {v : Verdict} {n : ℕ} (f : Refusal) → Verdicts b i v n → v ≡ RuleRefused f → IsUnderivable b i f
  refused_by f (unread e) p = absurd (subst OnlyText (e ∙ ap Err p) (read_text b i))
  refused_by f (high e big) p = absurd (cc)
  refused_by f (judged (Gives x) known e small h) p = absurd (cc)
  refused_by f (judged {r = r} (Fails g) known {n = n} e small h) p =
      let there = closed_legal i.bars b legal in
      let same : g ≡ f = cc in
      record {
        reading = r;
        read = e;
        none = fails_derivation (closed i.bars b) r known g n there h;
        because = subst (HoldsAt b.env (PartOfItem (closed i.bars b).context r)) same (fails_reason (closed i.bars b) r known g n there h);
      }
  refused_by f (judged High known e small h) p = absurd (cc)
  refused_by f (judged Nested known e small h) p = absurd (cc)

pub verdict_derivable : VerdictDerivable
verdict_derivable = record { derivable = λ b i n legal h. accepted_by b i legal h refl }

pub refused_underivable : RefusedUnderivable
refused_underivable = record { underivable = λ b i f n legal h. refused_by b i legal f h refl }
