-- Entries, flags and items as parts one behind the other.
use Rattle.std.proofs.Common.{◌≡◌, ℕ, Bool, true, List, [], ◌∷◌, refl, ap, ◌∙◌, sym, subst}
use Rattle.std.proofs.lemmas.Bool.{false≢true}
use Rattle.fb_lex.specs.declared.tokens.Kind.{Kind}
use Rattle.fb_lex.specs.declared.tokens.Kind.TheVariants as k
use Rattle.fb_lex.specs.declared.tokens.Token.{Token}
use Rattle.fb_lex.specs.TokenList.{Lexeme, sign, name, seen, between}
use Rattle.fb_parse.specs.declared.fault.ParseFault.{ParseFault}
use Rattle.fb_parse.specs.Grammar.{Surface, span, Term}
use Rattle.fb_parse.specs.Items as g
use Rattle.fb_parse.specs.Items.{SurfaceBody, SurfaceKind, SurfaceItem, IsBody, IsEntry, IsItem}
use Rattle.fb_parse.specs.Reading.{Begins, Read, Fails}
use Rattle.fb_parse.specs.Parts.{Is, IsSign, IsName, Then, anywhere, begins_term, behind_term, behind_terms, TermIs, SomeTerm}
use Rattle.fb_parse.specs.ItemParts.{BodyIs, SomeBody, EntryIs, SomeEntry, ItemIs, SomeItem}
use Rattle.fb_parse.proofs.Calculus.{Part, Follows, Names, Back, then_read, then_fails, then_fails_first, seen_as, fails_as, begins_first, lexeme_kind, seen_sign, seen_name}
use Rattle.fb_parse.proofs.Single.{begins_sign, begins_name, heads}
use Rattle.fb_parse.proofs.Shapes.{first_is, term_first, term_done, star_term}
use Rattle.fb_parse.proofs.Built.{any_follows, same_stop}
use Rattle.fb_parse.proofs.Leaves.{paren_follows, sign_is}
use Rattle.fb_parse.proofs.Arguments.{as_part, read_weak, fails_weak}

-- a primitive or a line
abbrev pub begins_body : Kind → Bool
begins_body k.By = true
begins_body kind = begins_term kind

term_body : (kind : Kind) → begins_term kind ≡ true → begins_body kind ≡ true
term_body k.By h = refl
term_body _ h = h

term_body_first : (ts : List Lexeme) → first_is begins_term ts ≡ true → first_is begins_body ts ≡ true
term_body_first [] h = h
term_body_first (name x s e ∷ ts) h = h
term_body_first (sign kind s e ∷ ts) h = term_body kind h

body_first : {l : ℕ} {ts r : List Lexeme} {b : SurfaceBody} → IsBody l ts b r → first_is begins_body ts ≡ true
body_first (IsBody.plain t) = term_body_first _ (term_first t)
body_first (IsBody.by w) = refl

-- a colon and a term
abbrev Typed : Part
Typed = Then (IsSign k.Colon) (SomeTerm 1)

typed_done : (l : ℕ) → Begins (Typed l) []
typed_done l = begins_first (IsSign k.Colon) (SomeTerm 1) l [] (term_done 1 l) (begins_sign k.Colon l)

prim_names : Names (Then (IsSign k.Prim) Typed) SomeEntry
prim_names = λ l ts rest p. (g.Prim p.2.2.0, p.2.2.2, subst (λ v. IsEntry l v (g.Prim p.2.2.0) p.2.2.2 rest) (sym (p.1.2 ∙ ap (λ v. sign k.Prim p.1.0 p.1.1 ∷ v) p.2.1.2)) (IsEntry.primitive p.2.2.3))

prim_into : {l e1 : ℕ} {ts r : List Lexeme} {kind : SurfaceKind} → IsEntry l ts kind e1 r → (z : Lexeme) (us : List Lexeme) (s0 e0 : ℕ) → ts ≡ z ∷ us → z ≡ sign k.Prim s0 e0 → Then (IsSign k.Prim) Typed l (z ∷ us) r
prim_into (IsEntry.primitive t) z us s0 e0 h i = (_, (_, _, sym h), (_, (_, _, refl), (_, _, _, t)))
prim_into (IsEntry.line b t) z us s0 e0 h i = absurd (false≢true (sym (ap (first_is begins_body) (h ∙ ap (λ v. v ∷ us) i)) ∙ body_first b))

prim_back : (text : List ℕ) (t : Token) → t.kind ≡ k.Prim → Back text t behind_term (Then (IsSign k.Prim) Typed) SomeEntry
prim_back text t h = λ l ts rest p ok. prim_into p.2 (seen text t) ts _ _ refl (seen_sign text t k.Prim refl h)

prim_fails : (text : List ℕ) (t : Token) {f : ParseFault} → t.kind ≡ k.Prim → Fails text (Then (IsSign k.Prim) Typed) behind_term t f → Fails text SomeEntry behind_term t f
prim_fails text t h q = fails_as prim_names (prim_back text t h) (same_stop behind_term) q

pub prim_fails_1 : (text : List ℕ) (t : Token) {f : ParseFault} → t.kind ≡ k.Prim → Fails text (IsSign k.Prim) anywhere t f → Fails text SomeEntry behind_term t f
prim_fails_1 text t h q = prim_fails text t h (then_fails_first (any_follows Typed behind_term) typed_done q)

pub prim_fails_2 : (text : List ℕ) (t : Token) {u : Token} {A : Part} {f : ParseFault} → t.kind ≡ k.Prim → Read text A (IsSign k.Prim) anywhere t u → Fails text (IsSign k.Colon) anywhere u f → Fails text SomeEntry behind_term t f
prim_fails_2 text t h r q = prim_fails text t h (then_fails (any_follows Typed behind_term) r (then_fails_first (any_follows (SomeTerm 1) behind_term) (term_done 1) q))

pub prim_fails_3 : (text : List ℕ) (t : Token) {u v : Token} {A B : Part} {f : ParseFault} → t.kind ≡ k.Prim → Read text A (IsSign k.Prim) anywhere t u → Read text B (IsSign k.Colon) anywhere u v →
    Fails text (SomeTerm 1) behind_term v f → Fails text SomeEntry behind_term t f
prim_fails_3 text t h r r2 q = prim_fails text t h (then_fails (any_follows Typed behind_term) r (then_fails (any_follows (SomeTerm 1) behind_term) r2 q))

pub prim_read : (text : List ℕ) (t : Token) {u v w : Token} {A B : Part} {a : Surface} {s e : ℕ} → t.kind ≡ k.Prim → Read text A (IsSign k.Prim) anywhere t u → Read text B (IsSign k.Colon) anywhere u v →
    Read text (TermIs 1 a s e) (SomeTerm 1) behind_term v w → Read text (EntryIs (g.Prim a) e) SomeEntry behind_term t w
prim_read text t {a = a} {e = e} h r r2 r3 =
    seen_as (λ l ts rest p. subst (λ v. IsEntry l v (g.Prim a) e rest) (sym (p.1.2 ∙ ap (λ v. sign k.Prim p.1.0 p.1.1 ∷ v) p.2.1.2)) (IsEntry.primitive p.2.2))
    prim_names (prim_back text t h) (same_stop behind_term)
    (then_read (any_follows Typed behind_term) (as_part r) (then_read (any_follows (SomeTerm 1) behind_term) (as_part r2) r3))

line_names : Names (Then SomeBody Typed) SomeEntry
line_names = λ l ts rest p. (g.Line p.1.0 p.2.2.0, p.2.2.2, IsEntry.line (subst (λ v. IsBody l ts p.1.0 v) p.2.1.2 p.1.1) p.2.2.3)

line_into : {l e1 : ℕ} {ts r : List Lexeme} {kind : SurfaceKind} → IsEntry l ts kind e1 r → (z : Lexeme) (us : List Lexeme) → ts ≡ z ∷ us → ((s e : ℕ) → z ≡ sign k.Prim s e → ⊥) → Then SomeBody Typed l (z ∷ us) r
line_into (IsEntry.primitive t) z us h other = absurd (other _ _ (sym (heads h)))
line_into {l} {e1} {ts} {r} (IsEntry.line b t) z us h other = subst (λ v. Then SomeBody Typed l v r) h (_, (_, b), (_, (_, _, refl), (_, _, _, t)))

line_back : (text : List ℕ) (t : Token) → (t.kind ≡ k.Prim → ⊥) → Back text t behind_term (Then SomeBody Typed) SomeEntry
line_back text t other = λ l ts rest p ok. line_into p.2 (seen text t) ts refl (λ s e h. other (lexeme_kind text t.kind _ _ k.Prim s e h))

typed_follows : Follows Typed behind_terms behind_term
typed_follows = λ l mid rest b ok. ap behind_terms b.1.2

line_fails : (text : List ℕ) (t : Token) {f : ParseFault} → (t.kind ≡ k.Prim → ⊥) → Fails text (Then SomeBody Typed) behind_term t f → Fails text SomeEntry behind_term t f
line_fails text t other q = fails_as line_names (line_back text t other) (same_stop behind_term) q

pub line_fails_1 : (text : List ℕ) (t : Token) {f : ParseFault} → (t.kind ≡ k.Prim → ⊥) → Fails text SomeBody behind_terms t f → Fails text SomeEntry behind_term t f
line_fails_1 text t other q = line_fails text t other (then_fails_first typed_follows typed_done q)

pub line_fails_2 : (text : List ℕ) (t : Token) {u : Token} {A : Part} {f : ParseFault} → (t.kind ≡ k.Prim → ⊥) → Read text A SomeBody behind_terms t u → Fails text (IsSign k.Colon) anywhere u f → Fails text SomeEntry behind_term t f
line_fails_2 text t other r q = line_fails text t other (then_fails typed_follows r (then_fails_first (any_follows (SomeTerm 1) behind_term) (term_done 1) q))

pub line_fails_3 : (text : List ℕ) (t : Token) {u v : Token} {A B : Part} {f : ParseFault} → (t.kind ≡ k.Prim → ⊥) → Read text A SomeBody behind_terms t u → Read text B (IsSign k.Colon) anywhere u v →
    Fails text (SomeTerm 1) behind_term v f → Fails text SomeEntry behind_term t f
line_fails_3 text t other r r2 q = line_fails text t other (then_fails typed_follows r (then_fails (any_follows (SomeTerm 1) behind_term) r2 q))

pub line_read : (text : List ℕ) (t : Token) {u v w : Token} {B : Part} {b : SurfaceBody} {a : Surface} {s e : ℕ} → (t.kind ≡ k.Prim → ⊥) → Read text (BodyIs b) SomeBody behind_terms t u → Read text B (IsSign k.Colon) anywhere u v →
    Read text (TermIs 1 a s e) (SomeTerm 1) behind_term v w → Read text (EntryIs (g.Line b a) e) SomeEntry behind_term t w
line_read text t {b = b} other r r2 r3 =
    seen_as (λ l ts rest p. IsEntry.line (subst (λ v. IsBody l ts b v) p.2.1.2 p.1) p.2.2)
    line_names (line_back text t other) (same_stop behind_term)
    (then_read typed_follows r (then_read (any_follows (SomeTerm 1) behind_term) (as_part r2) r3))

-- flags
abbrev Flag4 : Part
Flag4 = Then (SomeTerm 1) (IsSign k.RBracket)

abbrev Flag3 : Part
Flag3 = Then (IsSign k.Colon) Flag4

abbrev Flag2 : Part
Flag2 = Then IsName Flag3

abbrev Flag1 : Part
Flag1 = Then (IsSign k.LBracket) Flag2

flag_from : {l b s e s1 e1 s2 e2 s3 e3 s4 e4 : ℕ} {x : List ℕ} {a : Surface} {ts m1 m2 m3 m4 rest : List Lexeme} → ts ≡ sign k.LBracket s e ∷ m1 → m1 ≡ name x s1 e1 ∷ m2 → m2 ≡ sign k.Colon s2 e2 ∷ m3 → Term l 1 m3 a s3 e3 m4 → m4 ≡ sign k.RBracket s4 e4 ∷ rest →
    IsItem l b ts (record { bars = b; name = x; name_span = span s1 e1; span = span s e4; kind = g.Flag a }) rest
flag_from {l} {b} {s} {e} {s1} {e1} {s2} {e2} {s3} {e3} {s4} {e4} {x} {a} {ts} {m1} {m2} {m3} {m4} {rest} p q r t u =
    let whole : ts ≡ sign k.LBracket s e ∷ name x s1 e1 ∷ sign k.Colon s2 e2 ∷ m3 = p ∙ ap (λ v. sign k.LBracket s e ∷ v) (q ∙ ap (λ v. name x s1 e1 ∷ v) r) in
    subst (λ v. IsItem l b v (record { bars = b; name = x; name_span = span s1 e1; span = span s e4; kind = g.Flag a }) rest) (sym whole) (IsItem.flag (subst (λ v. Term l 1 m3 a s3 e3 v) u t))

flag_names : (b : ℕ) → Names Flag1 (SomeItem b)
flag_names b = λ l ts rest p. (_, flag_from p.1.2 p.2.1.3 p.2.2.1.2 p.2.2.2.1.3 p.2.2.2.2.2)

flag_into : {l b : ℕ} {ts r : List Lexeme} {i : SurfaceItem} → IsItem l b ts i r → (z : Lexeme) (us : List Lexeme) (s0 e0 : ℕ) → ts ≡ z ∷ us → z ≡ sign k.LBracket s0 e0 → Flag1 l (z ∷ us) r
flag_into (IsItem.flag t) z us s0 e0 h i = (_, (_, _, sym h), (_, (_, _, _, refl), (_, (_, _, refl), (_, (_, _, _, t), (_, _, refl)))))
flag_into (IsItem.entry t) z us s0 e0 h i = cc

flag_back : (text : List ℕ) (t : Token) (b : ℕ) → t.kind ≡ k.LBracket → Back text t behind_term Flag1 (SomeItem b)
flag_back text t b h = λ l ts rest p ok. flag_into p.1 (seen text t) ts _ _ refl (seen_sign text t k.LBracket refl h)

flag_done_4 : (l : ℕ) → Begins (Flag4 l) []
flag_done_4 l = begins_first (SomeTerm 1) (IsSign k.RBracket) l [] (begins_sign k.RBracket l) (term_done 1 l)

flag_done_3 : (l : ℕ) → Begins (Flag3 l) []
flag_done_3 l = begins_first (IsSign k.Colon) Flag4 l [] (flag_done_4 l) (begins_sign k.Colon l)

flag_done_2 : (l : ℕ) → Begins (Flag2 l) []
flag_done_2 l = begins_first IsName Flag3 l [] (flag_done_3 l) (begins_name l)

flag_fails : (text : List ℕ) (t : Token) (b : ℕ) {f : ParseFault} → t.kind ≡ k.LBracket → Fails text Flag1 behind_term t f → Fails text (SomeItem b) behind_term t f
flag_fails text t b h q = fails_as (flag_names b) (flag_back text t b h) (same_stop behind_term) q

bracket_follows : Follows (IsSign k.RBracket) behind_term behind_term
bracket_follows = paren_follows k.RBracket behind_term behind_term (λ s e ts. refl)

pub flag_fails_1 : (text : List ℕ) (t : Token) (b : ℕ) {f : ParseFault} → t.kind ≡ k.LBracket → Fails text (IsSign k.LBracket) anywhere t f → Fails text (SomeItem b) behind_term t f
flag_fails_1 text t b h q = flag_fails text t b h (then_fails_first (any_follows Flag2 behind_term) flag_done_2 q)

pub flag_fails_2 : (text : List ℕ) (t : Token) (b : ℕ) {u : Token} {A : Part} {f : ParseFault} → t.kind ≡ k.LBracket → Read text A (IsSign k.LBracket) anywhere t u → Fails text IsName anywhere u f → Fails text (SomeItem b) behind_term t f
flag_fails_2 text t b h r q = flag_fails text t b h (then_fails (any_follows Flag2 behind_term) r (then_fails_first (any_follows Flag3 behind_term) flag_done_3 q))

pub flag_fails_3 : (text : List ℕ) (t : Token) (b : ℕ) {u v : Token} {A B : Part} {f : ParseFault} → t.kind ≡ k.LBracket → Read text A (IsSign k.LBracket) anywhere t u → Read text B IsName anywhere u v →
    Fails text (IsSign k.Colon) anywhere v f → Fails text (SomeItem b) behind_term t f
flag_fails_3 text t b h r r2 q = flag_fails text t b h (then_fails (any_follows Flag2 behind_term) r (then_fails (any_follows Flag3 behind_term) r2 (then_fails_first (any_follows Flag4 behind_term) flag_done_4 q)))

pub flag_fails_4 : (text : List ℕ) (t : Token) (b : ℕ) {u v w : Token} {A B C : Part} {f : ParseFault} → t.kind ≡ k.LBracket → Read text A (IsSign k.LBracket) anywhere t u → Read text B IsName anywhere u v →
    Read text C (IsSign k.Colon) anywhere v w → Fails text (SomeTerm 1) behind_term w f → Fails text (SomeItem b) behind_term t f
flag_fails_4 text t b h r r2 r3 q = flag_fails text t b h (then_fails (any_follows Flag2 behind_term) r (then_fails (any_follows Flag3 behind_term) r2 (then_fails (any_follows Flag4 behind_term) r3
    (then_fails_first bracket_follows (begins_sign k.RBracket) q))))

pub flag_fails_5 : (text : List ℕ) (t : Token) (b : ℕ) {u v w x : Token} {A B C D : Part} {f : ParseFault} → t.kind ≡ k.LBracket → Read text A (IsSign k.LBracket) anywhere t u → Read text B IsName anywhere u v →
    Read text C (IsSign k.Colon) anywhere v w → Read text D (SomeTerm 1) behind_term w x → Fails text (IsSign k.RBracket) anywhere x f → Fails text (SomeItem b) behind_term t f
flag_fails_5 text t b h r r2 r3 r4 q = flag_fails text t b h (then_fails (any_follows Flag2 behind_term) r (then_fails (any_follows Flag3 behind_term) r2 (then_fails (any_follows Flag4 behind_term) r3
    (then_fails bracket_follows r4 (fails_weak (λ rest ok. refl) q)))))

pub flag_read : (text : List ℕ) (t u x : Token) (b : ℕ) {v w y : Token} {C : Part} {a : Surface} {s e : ℕ} → t.kind ≡ k.LBracket → u.kind ≡ k.Name → Read text (Is (seen text t)) (IsSign k.LBracket) anywhere t u →
    Read text (Is (seen text u)) IsName anywhere u v → Read text C (IsSign k.Colon) anywhere v w → Read text (TermIs 1 a s e) (SomeTerm 1) behind_term w x → Read text (Is (seen text x)) (IsSign k.RBracket) anywhere x y →
    Read text (ItemIs b (record { bars = b; name = between text u.span.start u.span.end; name_span = span u.span.start u.span.end; span = span t.span.start x.span.end; kind = g.Flag a })) (SomeItem b) behind_term t y
flag_read text t u x b h named r r2 r3 r4 r5 =
    seen_as (λ l ts rest p. flag_from (p.1 ∙ ap (λ v. v ∷ p.0) (seen_sign text t k.LBracket refl h)) (p.2.1 ∙ ap (λ v. v ∷ p.2.0) (seen_name text u named)) p.2.2.1.2 p.2.2.2.1
    (p.2.2.2.2 ∙ ap (λ v. v ∷ rest) (sign_is text x k.RBracket refl r5)))
    (flag_names b) (flag_back text t b h) (same_stop behind_term)
    (then_read (any_follows Flag2 behind_term) r (then_read (any_follows Flag3 behind_term) r2 (then_read (any_follows Flag4 behind_term) (as_part r3)
    (then_read bracket_follows r4 (read_weak (λ rest ok. refl) r5)))))

-- a name, and a primitive or a line for it
abbrev Entry2 : Part
Entry2 = Then (IsSign k.Assign) SomeEntry

abbrev Entry1 : Part
Entry1 = Then IsName Entry2

entry_from : {l b s e s1 e1 e2 : ℕ} {x : List ℕ} {kind : SurfaceKind} {ts m1 m2 rest : List Lexeme} → ts ≡ name x s e ∷ m1 → m1 ≡ sign k.Assign s1 e1 ∷ m2 → IsEntry l m2 kind e2 rest →
    IsItem l b ts (record { bars = b; name = x; name_span = span s e; span = span s e2; kind = kind }) rest
entry_from {l} {b} {s} {e} {s1} {e1} {e2} {x} {kind} {ts} {m1} {m2} {rest} p q t =
    subst (λ v. IsItem l b v (record { bars = b; name = x; name_span = span s e; span = span s e2; kind = kind }) rest) (sym (p ∙ ap (λ v. name x s e ∷ v) q)) (IsItem.entry t)

entry_names : (b : ℕ) → Names Entry1 (SomeItem b)
entry_names b = λ l ts rest p. (_, entry_from p.1.3 p.2.1.2 p.2.2.2)

entry_into : {l b : ℕ} {ts r : List Lexeme} {i : SurfaceItem} → IsItem l b ts i r → (z : Lexeme) (us : List Lexeme) → ts ≡ z ∷ us → ((s e : ℕ) → z ≡ sign k.LBracket s e → ⊥) → Entry1 l (z ∷ us) r
entry_into (IsItem.flag t) z us h other = absurd (other _ _ (sym (heads h)))
entry_into (IsItem.entry t) z us h other = (_, (_, _, _, sym h), (_, (_, _, refl), (_, _, t)))

entry_back : (text : List ℕ) (t : Token) (b : ℕ) → (t.kind ≡ k.LBracket → ⊥) → Back text t behind_term Entry1 (SomeItem b)
entry_back text t b other = λ l ts rest p ok. entry_into p.1 (seen text t) ts refl (λ s e h. other (lexeme_kind text t.kind _ _ k.LBracket s e h))

entry_done : (l : ℕ) → Begins (SomeEntry l) []
entry_done l = record {
  more = sign k.Prim l l ∷ sign k.Colon l l ∷ sign k.Star l l ∷ [];
  whole = λ rest. (_, _, IsEntry.primitive (star_term 1 l rest));
}

entry_done_2 : (l : ℕ) → Begins (Entry2 l) []
entry_done_2 l = begins_first (IsSign k.Assign) SomeEntry l [] (entry_done l) (begins_sign k.Assign l)

entry_fails : (text : List ℕ) (t : Token) (b : ℕ) {f : ParseFault} → (t.kind ≡ k.LBracket → ⊥) → Fails text Entry1 behind_term t f → Fails text (SomeItem b) behind_term t f
entry_fails text t b other q = fails_as (entry_names b) (entry_back text t b other) (same_stop behind_term) q

pub entry_fails_1 : (text : List ℕ) (t : Token) (b : ℕ) {f : ParseFault} → (t.kind ≡ k.LBracket → ⊥) → Fails text IsName anywhere t f → Fails text (SomeItem b) behind_term t f
entry_fails_1 text t b other q = entry_fails text t b other (then_fails_first (any_follows Entry2 behind_term) entry_done_2 q)

pub entry_fails_2 : (text : List ℕ) (t : Token) (b : ℕ) {u : Token} {A : Part} {f : ParseFault} → (t.kind ≡ k.LBracket → ⊥) → Read text A IsName anywhere t u → Fails text (IsSign k.Assign) anywhere u f → Fails text (SomeItem b) behind_term t f
entry_fails_2 text t b other r q = entry_fails text t b other (then_fails (any_follows Entry2 behind_term) r (then_fails_first (any_follows SomeEntry behind_term) entry_done q))

pub entry_fails_3 : (text : List ℕ) (t : Token) (b : ℕ) {u v : Token} {A B : Part} {f : ParseFault} → (t.kind ≡ k.LBracket → ⊥) → Read text A IsName anywhere t u → Read text B (IsSign k.Assign) anywhere u v →
    Fails text SomeEntry behind_term v f → Fails text (SomeItem b) behind_term t f
entry_fails_3 text t b other r r2 q = entry_fails text t b other (then_fails (any_follows Entry2 behind_term) r (then_fails (any_follows SomeEntry behind_term) r2 q))

pub entry_read : (text : List ℕ) (t : Token) (b : ℕ) {u v w : Token} {B : Part} {kind : SurfaceKind} {end : ℕ} → (t.kind ≡ k.LBracket → ⊥) → t.kind ≡ k.Name → Read text (Is (seen text t)) IsName anywhere t u →
    Read text B (IsSign k.Assign) anywhere u v → Read text (EntryIs kind end) SomeEntry behind_term v w →
    Read text (ItemIs b (record { bars = b; name = between text t.span.start t.span.end; name_span = span t.span.start t.span.end; span = span t.span.start end; kind = kind })) (SomeItem b) behind_term t w
entry_read text t b other named r r2 r3 =
    seen_as (λ l ts rest p. entry_from (p.1 ∙ ap (λ v. v ∷ p.0) (seen_name text t named)) p.2.1.2 p.2.2)
    (entry_names b) (entry_back text t b other) (same_stop behind_term)
    (then_read (any_follows Entry2 behind_term) r (then_read (any_follows SomeEntry behind_term) (as_part r2) r3))
