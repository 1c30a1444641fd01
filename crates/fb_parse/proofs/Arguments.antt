-- Words, and arguments of an instance with holes, as parts one behind the other.
use Rattle.std.proofs.Common.{◌≡◌, ℕ, true, List, [], ◌∷◌, ◌++◌, Result, Ok, Err, MatchResult, refl, ap, ◌∙◌, sym, subst}
use Rattle.std.proofs.lemmas.Bool.{false≢true}
use Rattle.fb_lex.specs.declared.tokens.Kind.TheVariants as k
use Rattle.fb_lex.specs.declared.tokens.Token.{Token}
use Rattle.fb_lex.specs.Tokens.{is_end}
use Rattle.fb_lex.specs.TokenList.{Lexeme, sign, name, seen, Reads}
use Rattle.fb_parse.specs.declared.fault.ParseFault.{ParseFault}
use Rattle.fb_parse.specs.declared.fault.ParseFault.TheVariants.{Lex}
use Rattle.fb_parse.specs.Grammar.{Surface, span}
use Rattle.fb_parse.specs.Items as g
use Rattle.fb_parse.specs.Items.{SurfaceArg, SurfaceBody, SurfaceKind, SurfaceItem, IsArg, MoreArgs, IsArgs, IsFilling, IsWay, IsBody, IsEntry, IsItem}
use Rattle.fb_parse.specs.Reading.{Begins, Read, Fails}
use Rattle.fb_parse.specs.Parts.{Is, IsSign, IsWord, Then, NextOrFault, anywhere, begins_term, behind_term, behind_terms, TermIs, SomeTerm}
use Rattle.fb_parse.specs.ItemParts.{ArgIs, SomeArg, ArgsAre, SomeArgs, FillingIs, SomeFilling, IsWordAt}
use Rattle.fb_parse.proofs.MoreParts.{MoreArgsAre, SomeMoreArgs}
use Rattle.fb_parse.proofs.Calculus.{Part, Stop, Follows, Names, Back, then_read, then_fails, then_fails_first, seen_as, fails_as, fault_behind, nothing_read, begins_first, lexeme_kind, lexeme_name, seen_sign, seen_name}
use Rattle.fb_parse.proofs.Single.{begins_sign, tails, heads}
use Rattle.fb_parse.proofs.Shapes.{first_is, terms_to_term, term_first}
use Rattle.fb_parse.proofs.Built.{any_follows, same_stop}
use Rattle.fb_parse.proofs.Leaves.{paren_follows}
use Rattle.fb_parse.specs.declared.tree.Arg.{Arg}
use Rattle.fb_parse.specs.ItemView.{arg_view, args_view, before_args}

-- Words.
pub seen_word : (text : List ℕ) (t : Token) {w : List ℕ} → IsWordAt text t w → seen text t ≡ name w t.span.start t.span.end
seen_word text t h = seen_name text t h.named ∙ ap (λ v. name v t.span.start t.span.end) h.bytes

pub name_bytes : {v w : List ℕ} {s e s1 e1 : ℕ} → name v s e ≡ name w s1 e1 → v ≡ w
name_bytes h = cc

pub word_seen : (text : List ℕ) (t : Token) {w : List ℕ} {s e : ℕ} → seen text t ≡ name w s e → IsWordAt text t w
word_seen text t {w} {s} {e} h =
    let named = lexeme_name text t.kind t.span.start t.span.end w s e h in
    record { named = named; bytes = name_bytes (sym (seen_name text t named) ∙ h) }

pub word_read : (text : List ℕ) (t : Token) (w : List ℕ) → IsWordAt text t w → (r : Result Token ParseFault) → NextOrFault text t r →
    MatchResult r (Read text (Is (seen text t)) (IsWord w) anywhere t) (Fails text (IsWord w) anywhere t)
word_read text t w h (Ok u) next =
    let is = seen_word text t h in
    record {
      tokens = seen text t ∷ [];
      reads = Reads.next (ap is_end h.named) next Reads.here;
      this = λ l rest. refl;
      part = λ l rest. (t.span.start, t.span.end, ap (λ v. v ∷ rest) is);
      only = λ l more rest p ok. sym (tails p.2);
    }
word_read text t w h (Err (Lex f)) fault =
    let is = seen_word text t h in
    fault_behind (ap is_end h.named) fault (λ l. record { more = []; whole = λ rest. (t.span.start, t.span.end, ap (λ v. v ∷ rest) is) })
word_read text t w h (Err _) fault = absurd fault

-- What was read, as any part of its kind.
pub as_part : {text : List ℕ} {A B : Part} {q : Stop} {t u : Token} → Read text A B q t u → Read text B B q t u
as_part r = record { tokens = r.tokens; reads = r.reads; this = r.part; part = r.part; only = r.only }

pub read_weak : {text : List ℕ} {A B : Part} {p q : Stop} {t u : Token} → ((rest : List Lexeme) → q rest ≡ true → p rest ≡ true) → Read text A B p t u → Read text A B q t u
read_weak w r = seen_as (λ l ts rest p. p) (λ l ts rest p. p) (λ l ts rest p ok. p) w r

pub fails_weak : {text : List ℕ} {B : Part} {p q : Stop} {t : Token} {f : ParseFault} → ((rest : List Lexeme) → q rest ≡ true → p rest ≡ true) → Fails text B p t f → Fails text B q t f
fails_weak w h = fails_as (λ l ts rest p. p) (λ l ts rest p ok. p) w h

-- One argument.
hole_names : Names (IsSign k.Hole) SomeArg
hole_names = λ l ts rest p. (g.Hole (span p.0 p.1), subst (λ v. IsArg l v (g.Hole (span p.0 p.1)) rest) (sym p.2) IsArg.hole)

hole_into : {l : ℕ} {ts r : List Lexeme} {a : SurfaceArg} → IsArg l ts a r → (x : Lexeme) (us : List Lexeme) (s0 e0 : ℕ) → ts ≡ x ∷ us → x ≡ sign k.Hole s0 e0 → IsSign k.Hole l (x ∷ us) r
hole_into IsArg.hole x us s0 e0 h i = (_, _, sym h)
hole_into (IsArg.given t) x us s0 e0 h i = absurd (false≢true (sym (ap (first_is begins_term) (h ∙ ap (λ v. v ∷ us) i)) ∙ term_first t))

hole_back : (text : List ℕ) (t : Token) → t.kind ≡ k.Hole → Back text t behind_term (IsSign k.Hole) SomeArg
hole_back text t h = λ l ts rest p ok. hole_into p.1 (seen text t) ts _ _ refl (seen_sign text t k.Hole refl h)

pub hole_read : (text : List ℕ) (t : Token) {u : Token} → t.kind ≡ k.Hole → Read text (Is (seen text t)) (IsSign k.Hole) anywhere t u → Read text (ArgIs (g.Hole (span t.span.start t.span.end))) SomeArg behind_term t u
hole_read text t h r = seen_as (λ l ts rest p. subst (λ v. IsArg l v (g.Hole (span t.span.start t.span.end)) rest) (sym (p ∙ ap (λ x. x ∷ rest) (seen_sign text t k.Hole refl h))) IsArg.hole)
    hole_names (hole_back text t h) (λ rest ok. refl) r

pub hole_fails : (text : List ℕ) (t : Token) {f : ParseFault} → t.kind ≡ k.Hole → Fails text (IsSign k.Hole) anywhere t f → Fails text SomeArg behind_term t f
hole_fails text t h q = fails_as hole_names (hole_back text t h) (λ rest ok. refl) q

given_names : Names (SomeTerm 1) SomeArg
given_names = λ l ts rest p. (g.Given p.0, IsArg.given p.3)

given_into : {l : ℕ} {ts r : List Lexeme} {a : SurfaceArg} → IsArg l ts a r → (x : Lexeme) (us : List Lexeme) → ts ≡ x ∷ us → ((s e : ℕ) → x ≡ sign k.Hole s e → ⊥) → SomeTerm 1 l (x ∷ us) r
given_into IsArg.hole x us h other = absurd (other _ _ (sym (heads h)))
given_into {l} {ts} {r} (IsArg.given t) x us h other = subst (λ v. SomeTerm 1 l v r) h (_, _, _, t)

given_back : (text : List ℕ) (t : Token) → (t.kind ≡ k.Hole → ⊥) → Back text t behind_term (SomeTerm 1) SomeArg
given_back text t other = λ l ts rest p ok. given_into p.1 (seen text t) ts refl (λ s e h. other (lexeme_kind text t.kind _ _ k.Hole s e h))

pub given_read : (text : List ℕ) (t : Token) {u : Token} {a : Surface} {s e : ℕ} → (t.kind ≡ k.Hole → ⊥) → Read text (TermIs 1 a s e) (SomeTerm 1) behind_term t u → Read text (ArgIs (g.Given a)) SomeArg behind_term t u
given_read text t other r = seen_as (λ l ts rest p. IsArg.given p) given_names (given_back text t other) (same_stop behind_term) r

pub given_fails : (text : List ℕ) (t : Token) {f : ParseFault} → (t.kind ≡ k.Hole → ⊥) → Fails text (SomeTerm 1) behind_term t f → Fails text SomeArg behind_term t f
given_fails text t other q = fails_as given_names (given_back text t other) (same_stop behind_term) q

-- Lists of arguments.
abbrev Behind : Part
Behind = Then SomeArg SomeMoreArgs

more_first : {l : ℕ} {ts r : List Lexeme} {xs : List SurfaceArg} → MoreArgs l ts xs r → behind_terms r ≡ true → behind_term ts ≡ true
more_first MoreArgs.no_more_args ok = terms_to_term _ ok
more_first (MoreArgs.comma a m) ok = refl

more_follow : Follows SomeMoreArgs behind_term behind_terms
more_follow = λ l mid rest p ok. more_first p.1 ok

more_done : (l : ℕ) → Begins (SomeMoreArgs l) []
more_done l = record { more = []; whole = λ rest. ([], MoreArgs.no_more_args) }

arg_done : (l : ℕ) → Begins (SomeArg l) []
arg_done l = record { more = sign k.Hole l l ∷ []; whole = λ rest. (g.Hole (span l l), IsArg.hole) }

behind_done : (l : ℕ) → Begins (Behind l) []
behind_done l = begins_first SomeArg SomeMoreArgs l [] (more_done l) (arg_done l)

args_names : Names Behind SomeArgs
args_names = λ l ts rest p. (_, IsArgs.args p.1.1 p.2.1)

args_into : {l : ℕ} {ts r : List Lexeme} {xs : List SurfaceArg} → IsArgs l ts xs r → Behind l ts r
args_into (IsArgs.args a m) = (_, (_, a), (_, m))

args_back : (text : List ℕ) (t : Token) → Back text t behind_terms Behind SomeArgs
args_back text t = λ l ts rest p ok. args_into p.1

pub args_done : (l : ℕ) → Begins (SomeArgs l) []
args_done l = record { more = sign k.Hole l l ∷ []; whole = λ rest. (_, IsArgs.args IsArg.hole MoreArgs.no_more_args) }

pub args_fails_1 : (text : List ℕ) (t : Token) {f : ParseFault} → Fails text SomeArg behind_term t f → Fails text SomeArgs behind_terms t f
args_fails_1 text t h = fails_as args_names (args_back text t) (same_stop behind_terms) (then_fails_first more_follow more_done h)

pub args_fails_2 : (text : List ℕ) (t : Token) {u : Token} {A : Part} {f : ParseFault} → Read text A SomeArg behind_term t u → Fails text SomeMoreArgs behind_terms u f → Fails text SomeArgs behind_terms t f
args_fails_2 text t r h = fails_as args_names (args_back text t) (same_stop behind_terms) (then_fails more_follow r h)

pub args_read : (text : List ℕ) (t : Token) {u v : Token} {a : SurfaceArg} {xs : List SurfaceArg} → Read text (ArgIs a) SomeArg behind_term t u → Read text (MoreArgsAre xs) SomeMoreArgs behind_terms u v →
    Read text (ArgsAre (a ∷ xs)) SomeArgs behind_terms t v
args_read text t r r2 = seen_as (λ l ts rest p. IsArgs.args p.1 p.2) args_names (args_back text t) (same_stop behind_terms) (then_read more_follow r r2)

comma_names : Names (Then (IsSign k.Comma) Behind) SomeMoreArgs
comma_names = λ l ts rest p. (p.2.1.0 ∷ p.2.2.0, subst (λ v. MoreArgs l v (p.2.1.0 ∷ p.2.2.0) rest) (sym p.1.2) (MoreArgs.comma p.2.1.1 p.2.2.1))

comma_into : {l : ℕ} {ts r : List Lexeme} {xs : List SurfaceArg} → MoreArgs l ts xs r → (y : Lexeme) (us : List Lexeme) (s0 e0 : ℕ) → ts ≡ y ∷ us → y ≡ sign k.Comma s0 e0 → behind_terms r ≡ true → Then (IsSign k.Comma) Behind l (y ∷ us) r
comma_into MoreArgs.no_more_args y us s0 e0 h i ok = absurd (false≢true (sym (ap behind_terms (h ∙ ap (λ v. v ∷ us) i)) ∙ ok))
comma_into (MoreArgs.comma a m) y us s0 e0 h i ok = (_, (_, _, sym h), (_, (_, a), (_, m)))

comma_back : (text : List ℕ) (t : Token) → t.kind ≡ k.Comma → Back text t behind_terms (Then (IsSign k.Comma) Behind) SomeMoreArgs
comma_back text t h = λ l ts rest p ok. comma_into p.1 (seen text t) ts _ _ refl (seen_sign text t k.Comma refl h) ok

nothing_more : {l : ℕ} {ts r : List Lexeme} {xs : List SurfaceArg} → MoreArgs l ts xs r → (y : Lexeme) (us : List Lexeme) → ts ≡ y ∷ us → ((s e : ℕ) → y ≡ sign k.Comma s e → ⊥) → r ≡ y ∷ us
nothing_more MoreArgs.no_more_args y us h other = h
nothing_more (MoreArgs.comma a m) y us h other = absurd (other _ _ (sym (heads h)))

pub more_args_none : (text : List ℕ) (t : Token) → (t.kind ≡ k.Comma → ⊥) → Read text (MoreArgsAre []) SomeMoreArgs behind_terms t t
more_args_none text t other = nothing_read (λ l rest. MoreArgs.no_more_args) (λ l rest. ([], MoreArgs.no_more_args))
    (λ l more rest p ok. nothing_more p.1 (seen text t) more refl (λ s e h. other (lexeme_kind text t.kind _ _ k.Comma _ _ h)))

pub comma_args_fails_1 : (text : List ℕ) (t : Token) {f : ParseFault} → t.kind ≡ k.Comma → Fails text (IsSign k.Comma) anywhere t f → Fails text SomeMoreArgs behind_terms t f
comma_args_fails_1 text t h q = fails_as comma_names (comma_back text t h) (same_stop behind_terms) (then_fails_first (any_follows Behind behind_terms) behind_done q)

pub comma_args_fails_2 : (text : List ℕ) (t : Token) {u : Token} {A : Part} {f : ParseFault} → t.kind ≡ k.Comma → Read text A (IsSign k.Comma) anywhere t u → Fails text SomeArg behind_term u f → Fails text SomeMoreArgs behind_terms t f
comma_args_fails_2 text t h r q = fails_as comma_names (comma_back text t h) (same_stop behind_terms) (then_fails (any_follows Behind behind_terms) r (then_fails_first more_follow more_done q))

pub comma_args_fails_3 : (text : List ℕ) (t : Token) {u v : Token} {A B : Part} {f : ParseFault} → t.kind ≡ k.Comma → Read text A (IsSign k.Comma) anywhere t u → Read text B SomeArg behind_term u v →
    Fails text SomeMoreArgs behind_terms v f → Fails text SomeMoreArgs behind_terms t f
comma_args_fails_3 text t h r r2 q = fails_as comma_names (comma_back text t h) (same_stop behind_terms) (then_fails (any_follows Behind behind_terms) r (then_fails more_follow r2 q))

pub comma_args_read : (text : List ℕ) (t : Token) {u v w : Token} {a : SurfaceArg} {ys : List SurfaceArg} → t.kind ≡ k.Comma → Read text (Is (seen text t)) (IsSign k.Comma) anywhere t u → Read text (ArgIs a) SomeArg behind_term u v →
    Read text (MoreArgsAre ys) SomeMoreArgs behind_terms v w → Read text (MoreArgsAre (a ∷ ys)) SomeMoreArgs behind_terms t w
comma_args_read text t {a = a} {ys = ys} h r r2 r3 = seen_as (λ l ts rest p. subst (λ v. MoreArgs l v (a ∷ ys) rest) (sym p.1.2) (MoreArgs.comma p.2.1 p.2.2)) comma_names (comma_back text t h) (same_stop behind_terms)
    (then_read (any_follows Behind behind_terms) (as_part r) (then_read more_follow r2 r3))

-- The arguments that touch a name, or none.
abbrev Listed : Part
Listed = Then SomeArgs (IsSign k.RParen)

no_filling : {l : ℕ} {ts r : List Lexeme} {xs : List SurfaceArg} → IsFilling l ts xs r → (y : Lexeme) (us : List Lexeme) → ts ≡ y ∷ us → ((s e : ℕ) → y ≡ sign k.Touching s e → ⊥) → r ≡ y ∷ us
no_filling IsFilling.nothing y us h other = h
no_filling (IsFilling.listed a) y us h other = absurd (other _ _ (sym (heads h)))

pub filling_none : (text : List ℕ) (t : Token) → (t.kind ≡ k.Touching → ⊥) → Read text (FillingIs []) SomeFilling behind_terms t t
filling_none text t other = nothing_read (λ l rest. IsFilling.nothing) (λ l rest. ([], IsFilling.nothing))
    (λ l more rest p ok. no_filling p.1 (seen text t) more refl (λ s e h. other (lexeme_kind text t.kind _ _ k.Touching _ _ h)))

listed_names : Names (Then (IsSign k.Touching) Listed) SomeFilling
listed_names = λ l ts rest p. (p.2.1.0, subst (λ v. IsFilling l v p.2.1.0 rest) (sym p.1.2) (IsFilling.listed (subst (λ v. IsArgs l p.0 p.2.1.0 v) p.2.2.2 p.2.1.1)))

listed_into : {l : ℕ} {ts r : List Lexeme} {xs : List SurfaceArg} → IsFilling l ts xs r → (y : Lexeme) (us : List Lexeme) (s0 e0 : ℕ) → ts ≡ y ∷ us → y ≡ sign k.Touching s0 e0 → behind_terms r ≡ true → Then (IsSign k.Touching) Listed l (y ∷ us) r
listed_into IsFilling.nothing y us s0 e0 h i ok = absurd (false≢true (sym (ap behind_terms (h ∙ ap (λ v. v ∷ us) i)) ∙ ok))
listed_into (IsFilling.listed a) y us s0 e0 h i ok = (_, (_, _, sym h), (_, (_, a), (_, _, refl)))

listed_back : (text : List ℕ) (t : Token) → t.kind ≡ k.Touching → Back text t behind_terms (Then (IsSign k.Touching) Listed) SomeFilling
listed_back text t h = λ l ts rest p ok. listed_into p.1 (seen text t) ts _ _ refl (seen_sign text t k.Touching refl h) ok

listed_done : (l : ℕ) → Begins (Listed l) []
listed_done l = begins_first SomeArgs (IsSign k.RParen) l [] (begins_sign k.RParen l) (args_done l)

pub filling_fails_1 : (text : List ℕ) (t : Token) {f : ParseFault} → t.kind ≡ k.Touching → Fails text (IsSign k.Touching) anywhere t f → Fails text SomeFilling behind_terms t f
filling_fails_1 text t h q = fails_as listed_names (listed_back text t h) (same_stop behind_terms) (then_fails_first (any_follows Listed behind_terms) listed_done q)

pub filling_fails_2 : (text : List ℕ) (t : Token) {u : Token} {A : Part} {f : ParseFault} → t.kind ≡ k.Touching → Read text A (IsSign k.Touching) anywhere t u → Fails text SomeArgs behind_terms u f → Fails text SomeFilling behind_terms t f
filling_fails_2 text t h r q = fails_as listed_names (listed_back text t h) (same_stop behind_terms)
    (then_fails (any_follows Listed behind_terms) r (then_fails_first (paren_follows k.RParen behind_terms behind_terms (λ s e ts. refl)) (begins_sign k.RParen) q))

pub filling_fails_3 : (text : List ℕ) (t : Token) {u v : Token} {A B : Part} {f : ParseFault} → t.kind ≡ k.Touching → Read text A (IsSign k.Touching) anywhere t u → Read text B SomeArgs behind_terms u v →
    Fails text (IsSign k.RParen) anywhere v f → Fails text SomeFilling behind_terms t f
filling_fails_3 text t h r r2 q = fails_as listed_names (listed_back text t h) (same_stop behind_terms)
    (then_fails (any_follows Listed behind_terms) r (then_fails (paren_follows k.RParen behind_terms behind_terms (λ s e ts. refl)) r2 (fails_weak (λ rest ok. refl) q)))

pub filling_read : (text : List ℕ) (t : Token) {u v w : Token} {xs : List SurfaceArg} → t.kind ≡ k.Touching → Read text (Is (seen text t)) (IsSign k.Touching) anywhere t u → Read text (ArgsAre xs) SomeArgs behind_terms u v →
    Read text (Is (seen text v)) (IsSign k.RParen) anywhere v w → Read text (FillingIs xs) SomeFilling behind_terms t w
filling_read text t {xs = xs} h r r2 r3 =
    seen_as (λ l ts rest p. subst (λ v. IsFilling l v xs rest) (sym p.1.2) (IsFilling.listed (subst (λ v. IsArgs l p.0 xs v) p.2.2.2 p.2.1)))
    listed_names (listed_back text t h) (same_stop behind_terms)
    (then_read (any_follows Listed behind_terms) (as_part r) (then_read {q = behind_terms} (paren_follows k.RParen behind_terms behind_terms (λ s e ts. refl)) r2 (read_weak (λ rest ok. refl) (as_part r3))))

-- Arguments before others.
pub before_args_push : (xs : List Arg) (a : Arg) (ys : List SurfaceArg) → before_args (xs ++ a ∷ []) ys ≡ before_args xs (arg_view a ∷ ys)
before_args_push [] a ys = refl
before_args_push (x ∷ xs) a ys = ap (λ v. arg_view x ∷ v) (before_args_push xs a ys)

pub before_args_none : (xs : List Arg) → before_args xs [] ≡ args_view xs
before_args_none [] = refl
before_args_none (x ∷ xs) = ap (λ v. arg_view x ∷ v) (before_args_none xs)
